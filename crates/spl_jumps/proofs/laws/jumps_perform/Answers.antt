-- Words are deleted, and BR leads to the mark.
use Rattle.spl_jumps.proofs.JumpLemmas.{jumps}
use Rattle.spl_jumps.proofs.laws.jumps_perform.Goals as goal

pub returns : goal.returns
returns c = jumps
