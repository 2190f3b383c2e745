-- The label is an external one, of the gate.
use Rattle.spl_ways.proofs.WayLemmas.{gate_leads}
use Rattle.spl_ways.proofs.laws.gate_calls_lead.Goals as goal

pub returns : goal.returns
returns c = λ ps w seg front m back is index v there gate. gate_leads ps w seg front m back is index v there gate
