-- Body by body.
use Rattle.spl_called_names.proofs.Modules.{passing_module}
use Rattle.spl_called_names.proofs.laws.modules_want_what_is_called.Goals as goal

pub returns : goal.returns
returns c = passing_module
