-- Body by body.
use Rattle.spl_wanted_names.proofs.Modules.{wanting_module, wants_known}
use Rattle.spl_wanted_names.proofs.laws.modules_want_few_names.Goals as goal

pub returns-clause-part : goal.returns-clause-part
returns-clause-part c = wanting_module

pub returns-clause-code : goal.returns-clause-code
returns-clause-code c = wants_known
