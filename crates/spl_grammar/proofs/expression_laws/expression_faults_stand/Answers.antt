use Rattle.spl_grammar.proofs.ExpressionLaws.{expression_fault}
use Rattle.spl_grammar.proofs.expression_laws.expression_faults_stand.Goals as goal

-- the reader looks at no token behind the fault
pub returns : goal.returns
returns c = λ room taken t us vs ts more e a. expression_fault room taken e a
