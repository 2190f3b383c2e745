-- Unit by unit, and procedure by procedure.
use Rattle.spl_sound_programs.proofs.Programs.{covered}
use Rattle.spl_sound_programs.proofs.laws.sound_programs_are_covered.Goals as goal

pub returns : goal.returns
returns c = covered
