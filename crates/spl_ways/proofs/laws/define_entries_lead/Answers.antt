-- The entry is one of the segment's own.
use Rattle.spl_ways.proofs.WayLemmas.{define_leads}
use Rattle.spl_ways.proofs.laws.define_entries_lead.Goals as goal

pub returns : goal.returns
returns c = λ ps w seg front m back is index d there. define_leads ps w seg front m back is index d there
