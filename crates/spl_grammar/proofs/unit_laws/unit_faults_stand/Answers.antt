use Rattle.spl_grammar.proofs.UnitLaws.{unit_fault}
use Rattle.spl_grammar.proofs.unit_laws.unit_faults_stand.Goals as goal

-- the reader looks at no token behind the fault
pub returns : goal.returns
returns c = λ room t us vs ts more e a. unit_fault room e a
