-- Piece by piece.
use Rattle.spl_ways.proofs.WayLemmas.{calls_lead}
use Rattle.spl_ways.proofs.laws.module_calls_lead.Goals as goal

pub returns : goal.returns
returns c = λ ps w seg front m back is marks xs kinds indexed. calls_lead ps w seg front m back is marks xs kinds indexed
