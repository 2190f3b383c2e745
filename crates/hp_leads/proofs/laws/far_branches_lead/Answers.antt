-- Two steps, between which no start is.
use Rattle.hp_leads.proofs.BranchLemmas.{far_leads}
use Rattle.hp_leads.proofs.laws.far_branches_lead.Goals as goal

pub returns : goal.returns
returns c = far_leads
