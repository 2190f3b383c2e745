-- Each label among those of the body has a landing, which was made before.
use Rattle.spl_sound_beginnings.proofs.ModuleLaws.{well_statements}
use Rattle.spl_sound_beginnings.proofs.laws.bodies_begin_well.Goals as goal

pub returns : goal.returns
returns c = well_statements
