-- Unit by unit.
use Rattle.spl_sound_beginnings.proofs.Units.{sound_found, sound_begins}
use Rattle.spl_sound_beginnings.proofs.laws.sound_units_begin_well.Goals as goal

pub returns-clause-found : goal.returns-clause-found
returns-clause-found c = sound_found

pub returns-clause-code : goal.returns-clause-code
returns-clause-code c = sound_begins
