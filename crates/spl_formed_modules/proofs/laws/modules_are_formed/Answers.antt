-- Module by module.
use Rattle.spl_formed_modules.proofs.Formed.{all_formed}
use Rattle.spl_formed_modules.proofs.laws.modules_are_formed.Goals as goal

pub returns : goal.returns
returns c = all_formed
