use Rattle.spl_meaning.proofs.FirstFaults.{sound_is}
use Rattle.spl_meaning.proofs.laws.sound_units_break_none.Goals as goal

-- the first of a list
pub returns : goal.returns
returns c = sound_is
