use Rattle.spl_known.proofs.KnownRight.{all_arithmetic, all_reference, all_statement, all_call, all_effect}
use Rattle.spl_known.proofs.known_rules.known_programs_are_right.Goals as goal

-- each is computed
pub returns-clause-arithmetic : goal.returns-clause-arithmetic
returns-clause-arithmetic c = all_arithmetic

pub returns-clause-references : goal.returns-clause-references
returns-clause-references c = all_reference

pub returns-clause-statements : goal.returns-clause-statements
returns-clause-statements c = all_statement

pub returns-clause-calls : goal.returns-clause-calls
returns-clause-calls c = all_call

pub returns-clause-effects : goal.returns-clause-effects
returns-clause-effects c = all_effect
