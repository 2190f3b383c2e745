-- Each subroutine of such a list has a name that was new, so no other declaration gives it a heading.
use Rattle.spl_sound_headings.proofs.Inner.{locals_theirs}
use Rattle.spl_sound_headings.proofs.laws.subroutines_are_theirs.Goals as goal

pub returns : goal.returns
returns c = locals_theirs
