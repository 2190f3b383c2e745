-- The row stays, and goes on in the right half.
use Rattle.hp_leads.proofs.WordLemmas.{left_leads}
use Rattle.hp_leads.proofs.laws.left_operations_lead.Goals as goal

pub returns : goal.returns
returns c = left_leads
