-- Through the label of the entry.
use Rattle.hp_leads.proofs.CallLemmas.{procedure_leads}
use Rattle.hp_leads.proofs.laws.procedure_calls_lead.Goals as goal

pub returns : goal.returns
returns c = procedure_leads
