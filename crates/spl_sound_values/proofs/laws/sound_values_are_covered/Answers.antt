-- Along the tree.
use Rattle.spl_sound_values.proofs.Values.{values_covered}
use Rattle.spl_sound_values.proofs.laws.sound_values_are_covered.Goals as goal

pub returns : goal.returns
returns c = values_covered
