-- By the choice of the branch.
use Rattle.hp_leads.proofs.BranchLemmas.{toward_leads}
use Rattle.hp_leads.proofs.laws.branches_lead.Goals as goal

pub returns : goal.returns
returns c = toward_leads
