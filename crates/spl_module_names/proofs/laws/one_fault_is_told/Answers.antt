-- A fault is told with the letters of its names, and these are the names.
use Rattle.spl_module_names.proofs.FaultLaws.{one_told}
use Rattle.spl_module_names.proofs.laws.one_fault_is_told.Goals as goal

pub returns : goal.returns
returns c = one_told
