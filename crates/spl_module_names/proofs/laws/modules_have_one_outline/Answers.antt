-- By the outlines that the units give.
use Rattle.spl_module_names.proofs.OutlineLaws.{one_outline}
use Rattle.spl_module_names.proofs.laws.modules_have_one_outline.Goals as goal

pub returns : goal.returns
returns c = one_outline
