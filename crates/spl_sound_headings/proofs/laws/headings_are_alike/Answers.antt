-- The heading is that of the procedure itself, of a FORWARD that its body answers, or of an EXTERNAL that is like all of that name elsewhere.
use Rattle.spl_sound_headings.proofs.Units.{headings_alike}
use Rattle.spl_sound_headings.proofs.laws.headings_are_alike.Goals as goal

pub returns : goal.returns
returns c = headings_alike
