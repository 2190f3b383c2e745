use Rattle.spl_grammar.proofs.StatementLaws.{statement_fault}
use Rattle.spl_grammar.proofs.statement_laws.statement_faults_stand.Goals as goal

-- the reader looks at no token behind the fault
pub returns : goal.returns
returns c = λ room t us vs ts more e a. statement_fault room e a
