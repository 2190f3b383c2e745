use Rattle.spl_grammar.proofs.ExpressionLaws.{expression_read}
use Rattle.spl_grammar.proofs.expression_laws.expressions_are_read.Goals as goal

-- by induction on the spelling
pub returns : goal.returns
returns c = λ n x e ts rest room taken l w. (expression_read l w room taken).outcome
