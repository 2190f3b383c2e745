-- The first declaration of a name in a list counts.
use Rattle.spl_sound_names.proofs.Tables.{kept_declarations}
use Rattle.spl_sound_names.proofs.laws.names_stay.Goals as goal

pub returns : goal.returns
returns c = kept_declarations
