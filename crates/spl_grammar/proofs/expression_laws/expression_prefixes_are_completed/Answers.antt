use Rattle.spl_grammar.proofs.CompletedParts.{free}
use Rattle.spl_grammar.proofs.CompletedExpressions.{completed}
use Rattle.spl_grammar.proofs.CompletedLaws.{completes}
use Rattle.spl_grammar.proofs.expression_laws.expression_prefixes_are_completed.Goals as goal

-- step by step, from the end of the chain
pub returns : goal.returns
returns c = λ q d n j k ts mid chain. completes (completed free chain) (λ us more l.
    (l.tree, record { operators = l.operators; form = l.form; spelled = l.spelled }))
