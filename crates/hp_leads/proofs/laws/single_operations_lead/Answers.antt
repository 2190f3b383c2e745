-- The row stays, and passes its word.
use Rattle.hp_leads.proofs.WordLemmas.{single_leads}
use Rattle.hp_leads.proofs.laws.single_operations_lead.Goals as goal

pub returns : goal.returns
returns c = single_leads
