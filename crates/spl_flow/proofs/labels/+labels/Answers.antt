-- Behind an IF with an ELSE.
use Rattle.std.proofs.lemmas.Result.{on_ok_weaker}
use Rattle.spl_flow.proofs.LabelLemmas.{seen_else}
use Rattle.spl_flow.proofs.labels.+labels.Goals as goal

pub labels_in-returns-in-Some : goal.labels_in-returns-in-Some
labels_in-returns-in-Some t c = on_ok_weaker c.labels_in-in-Some.result
    (λ behind. seen_else _ _ _ c.args.statement.now c.deref-in-If.result.now c.deref-in-Some.result.now c.in-If.test c.in-If.yes c.in-Some.no c.in-If.no c.in-If.at
    c.in-If.is c.in-Some.is c.deref-in-If.ensures c.deref-in-Some.ensures c.in_ok-labels_in-in-If.ensures behind)
    c.labels_in-in-Some.ensures
