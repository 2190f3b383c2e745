-- By what comes of the run.
use Rattle.spl_followed.proofs.WayLaws.{back}
use Rattle.spl_followed.proofs.laws.source_follows_machine.Goals as goal

pub returns : goal.returns
returns c = back
