-- Rule 28 is asked of each subroutine of a unit.
use Rattle.spl_sound_labels.proofs.InnerLaws.{sound_none}
use Rattle.spl_sound_labels.proofs.laws.sound_subprograms_have_no_subroutines.Goals as goal

pub returns : goal.returns
returns c = sound_none
