-- Arm by arm, each with a value that is one less.
use Rattle.spl_choices.proofs.CaseLemmas.{no_arm, arm_before, cases}
use Rattle.spl_choices.proofs.laws.cases_perform.Goals as goal

pub returns-clause-none : goal.returns-clause-none
returns-clause-none c = no_arm

pub returns-clause-arm : goal.returns-clause-arm
returns-clause-arm c = arm_before

pub returns-clause-whole : goal.returns-clause-whole
returns-clause-whole c = cases
