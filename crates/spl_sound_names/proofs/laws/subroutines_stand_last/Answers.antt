-- By the grammar of declarations.
use Rattle.spl_sound_names.proofs.Order.{units_last}
use Rattle.spl_sound_names.proofs.laws.subroutines_stand_last.Goals as goal

pub returns : goal.returns
returns c = units_last
