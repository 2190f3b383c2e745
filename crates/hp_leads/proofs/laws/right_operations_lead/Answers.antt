-- The row stays, and passes its word.
use Rattle.hp_leads.proofs.WordLemmas.{right_leads}
use Rattle.hp_leads.proofs.laws.right_operations_lead.Goals as goal

pub returns : goal.returns
returns c = right_leads
