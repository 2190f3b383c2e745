-- Words are within what they weigh, and other faults would be those of the modules that have none.
use Rattle.spl_linkable.proofs.LinkLaws.{none_fail}
use Rattle.spl_linkable.proofs.laws.no_modules_fail.Goals as goal

pub returns : goal.returns
returns c = none_fail
