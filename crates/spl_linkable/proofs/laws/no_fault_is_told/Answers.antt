-- A fault that is told is that of some modules.
use Rattle.spl_linkable.proofs.LinkLaws.{none_told}
use Rattle.spl_linkable.proofs.laws.no_fault_is_told.Goals as goal

pub returns : goal.returns
returns c = none_told
