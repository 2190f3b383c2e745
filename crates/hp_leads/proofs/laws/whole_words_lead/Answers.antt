-- By the instruction.
use Rattle.hp_leads.proofs.WordLemmas.{whole_leads}
use Rattle.hp_leads.proofs.laws.whole_words_lead.Goals as goal

pub returns : goal.returns
returns c = whole_leads
