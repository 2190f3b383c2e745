-- Event by event.
use Rattle.mpe_worlds.proofs.AloneLaws.{played_goes_on}
use Rattle.mpe_worlds.proofs.laws.events_leave_each_alone.Goals as goal

pub returns : goal.returns
returns c = played_goes_on
