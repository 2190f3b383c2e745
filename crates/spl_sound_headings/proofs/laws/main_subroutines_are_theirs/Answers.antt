-- Unit by unit, as in the list of a procedure.
use Rattle.spl_sound_headings.proofs.Units.{inner_theirs}
use Rattle.spl_sound_headings.proofs.laws.main_subroutines_are_theirs.Goals as goal

pub returns : goal.returns
returns c = inner_theirs
