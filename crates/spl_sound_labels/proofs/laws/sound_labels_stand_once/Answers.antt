-- Rule 20 is asked of each body.
use Rattle.spl_sound_labels.proofs.LabelLaws.{sound_labels}
use Rattle.spl_sound_labels.proofs.laws.sound_labels_stand_once.Goals as goal

pub returns : goal.returns
returns c = sound_labels
