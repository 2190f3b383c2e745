-- They are covered, and covered programs carry their units.
use Rattle.spl_sound_programs.proofs.Programs.{carry}
use Rattle.spl_sound_programs.proofs.laws.sound_programs_carry.Goals as goal

pub returns : goal.returns
returns c = carry c.covered_programs_carry.ensures
