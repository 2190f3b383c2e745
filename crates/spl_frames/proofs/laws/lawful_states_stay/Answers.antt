use Rattle.spl_frames.proofs.LawfulStates.{lawful_stays}
use Rattle.spl_frames.proofs.laws.lawful_states_stay.Goals as goal

-- by what stays
pub returns : goal.returns
returns c = lawful_stays
