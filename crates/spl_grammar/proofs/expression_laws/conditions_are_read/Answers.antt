use Rattle.spl_grammar.proofs.ExpressionLaws.{condition_read}
use Rattle.spl_grammar.proofs.expression_laws.conditions_are_read.Goals as goal

-- by induction on the spelling
pub returns : goal.returns
returns c = λ n x e ts rest room taken l w. (condition_read l w room taken).outcome
