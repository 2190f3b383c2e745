-- The word behind is added to its own offset.
use Rattle.hp_leads.proofs.BranchLemmas.{far_jump_leads}
use Rattle.hp_leads.proofs.laws.far_jumps_lead.Goals as goal

pub returns : goal.returns
returns c = far_jump_leads
