-- The steps of a turn are steps of the flat machine, and no other session steps.
use Rattle.mpe_worlds.proofs.AloneLaws.{turned_goes_on}
use Rattle.mpe_worlds.proofs.laws.turns_leave_each_alone.Goals as goal

pub returns : goal.returns
returns c = turned_goes_on
