use Rattle.spl_rules.proofs.Listed.{sound_keep_all}
use Rattle.spl_rules.proofs.laws.sound_units_keep_all.Goals as goal

-- by the list
pub returns : goal.returns
returns c = sound_keep_all
