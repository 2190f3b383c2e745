use Rattle.spl_cuts.proofs.TextCuts.{cuts_sound}
use Rattle.spl_cuts.proofs.laws.cuts_are_sound.Goals as goal

-- one answer is read
pub returns : goal.returns
returns c = cuts_sound
