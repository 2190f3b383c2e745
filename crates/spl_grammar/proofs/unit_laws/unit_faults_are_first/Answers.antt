use Rattle.spl_grammar.proofs.UnitLaws.{before_fault, unit_fault}
use Rattle.spl_grammar.proofs.unit_laws.unit_faults_are_first.Goals as goal

-- the fault comes behind a chain, which can be completed, and stands in each list that agrees
pub returns : goal.returns
returns c = λ room t us ts e. (before_fault room _ ts e, λ vs more a u v. (unit_fault room e a).1 u v)
