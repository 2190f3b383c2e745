-- Unit by unit.
use Rattle.spl_formed_modules.proofs.Few.{all_few}
use Rattle.spl_formed_modules.proofs.laws.modules_are_few.Goals as goal

pub returns : goal.returns
returns c = all_few
