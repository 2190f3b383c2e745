-- An own entry is one of at most 127.
use Rattle.std.proofs.Common.{◌≡◌, ◌∙◌, ◌+◌, ◌≤◌, Some, sym, arith}
use Rattle.mpe_segmenter.specs.Entries.{owns, called_at}
use Rattle.mpe_segmenter.proofs.FitLemmas.{own_few, nowhere_formed, external_formed}
use Rattle.mpe_segmenter.proofs.homes.label_in.Goals as goal

few : (c : goal.In-Some) → 1 + c.in-Some.place ≤ 127
few c =
    let called : called_at c.args.name.now.items (owns 0 c.args.segment.now.modules.items) ≡ Some c.in-Some.place = sym (c.args.segment.now.entered.called_by.finds c.args.name.now.items) ∙ sym c.in-Some.ensures in
    own_few c.args.segment.now.modules.items c.args.name.now.items c.in-Some.place called c.requires.few

pub overflow_add-result : goal.overflow_add-result
overflow_add-result c = omega (arith, few c)

pub overflow_cast-result-in-Some : goal.overflow_cast-result-in-Some
overflow_cast-result-in-Some c = omega (arith, few c)

pub returns-in-None-clause-formed : goal.returns-in-None-clause-formed
returns-in-None-clause-formed c = nowhere_formed

pub returns-in-Some-clause-formed : goal.returns-in-Some-clause-formed
returns-in-Some-clause-formed c = external_formed c.args.number (1 + c.in-Some.place) (omega (arith, c.requires.count)) (omega (arith, few c))
