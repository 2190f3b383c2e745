-- No code, and nothing is set.
use Rattle.spl_procedures.proofs.EntryLemmas.{none_set}
use Rattle.spl_procedures.proofs.laws.none_are_set.Goals as goal

pub returns : goal.returns
returns c = none_set
