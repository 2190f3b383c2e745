use Rattle.spl_reading.specs.Readers.{pure}
use Rattle.spl_reading.specs.ReadExpressions.{negative_by}
use Rattle.spl_parts.specs.Parts.{operand}
use Rattle.spl_tokens.proofs.Steps.{by_peek, goes_on}
use Rattle.spl_atoms.proofs.ViewLemmas.{number_tree, wide_tree}
use Rattle.spl_atoms.proofs.atoms.negative.Goals as goal

-- the number is taken, and negated in its own width
pub returns-in_ok-take-in-Number : goal.returns-in_ok-take-in-Number
unfolding pure negative_by operand
returns-in_ok-take-in-Number c =
    rw (by_peek _ _ _ _ c.in_ok-value.ensures, c.in-Number.is, goes_on _ _ _ _ _ c.in_ok-take-in-Number.ensures.read)
    (cc (number_tree c.negated_word.result, c.negated_word.ensures))

pub returns-in_ok-take-in-Wide : goal.returns-in_ok-take-in-Wide
unfolding pure negative_by operand
returns-in_ok-take-in-Wide c =
    rw (by_peek _ _ _ _ c.in_ok-value.ensures, c.in-Wide.is, goes_on _ _ _ _ _ c.in_ok-take-in-Wide.ensures.read)
    (cc (wide_tree c.negated_double.result, c.negated_double.ensures))
