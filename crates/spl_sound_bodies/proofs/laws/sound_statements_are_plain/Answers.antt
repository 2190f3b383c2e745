-- Case by case: the rule of pointers refuses the cell of a procedure or a subroutine.
use Rattle.spl_sound_bodies.proofs.Plain.{plain}
use Rattle.spl_sound_bodies.proofs.laws.sound_statements_are_plain.Goals as goal

pub returns : goal.returns
returns c = plain
