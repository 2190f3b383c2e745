use Rattle.spl_grammar.proofs.ExpressionLaws.{expression_unique}
use Rattle.spl_grammar.proofs.expression_laws.expressions_are_unique.Goals as goal

-- both are what is read where as many constructs may be open as there are tokens
pub returns : goal.returns
returns c = λ n m x y e d ts rest more l w k v. expression_unique l w k v
