-- Through the label of the entry.
use Rattle.hp_leads.proofs.CallLemmas.{subroutine_leads}
use Rattle.hp_leads.proofs.laws.subroutine_calls_lead.Goals as goal

pub returns : goal.returns
returns c = subroutine_leads
