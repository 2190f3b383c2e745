-- A limit that a subroutine passes is among those of all units.
use Rattle.spl_seen.proofs.Limits.{none_passed}
use Rattle.spl_seen.proofs.laws.subroutines_pass_none.Goals as goal

pub returns : goal.returns
returns c = none_passed
