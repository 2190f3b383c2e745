-- The modules of a program that is built have no fault.
use Rattle.spl_module_names.proofs.FaultLaws.{none_built}
use Rattle.spl_module_names.proofs.laws.none_is_built.Goals as goal

pub returns : goal.returns
returns c = none_built
