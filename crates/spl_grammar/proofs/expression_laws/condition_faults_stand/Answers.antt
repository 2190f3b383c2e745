use Rattle.spl_grammar.proofs.ExpressionLaws.{condition_fault}
use Rattle.spl_grammar.proofs.expression_laws.condition_faults_stand.Goals as goal

-- the reader looks at no token behind the fault
pub returns : goal.returns
returns c = λ room taken t us vs ts more e a. condition_fault room taken e a
