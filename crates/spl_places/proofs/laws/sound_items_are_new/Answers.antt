-- Rule 2 is asked of each item.
use Rattle.spl_places.proofs.SoundLaws.{sound_new}
use Rattle.spl_places.proofs.laws.sound_items_are_new.Goals as goal

pub returns : goal.returns
returns c = sound_new
