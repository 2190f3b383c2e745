-- Own entries, and wants.
use Rattle.spl_bounds.proofs.Entries.{few_entries}
use Rattle.spl_bounds.proofs.laws.parts_have_few_entries.Goals as goal

pub returns : goal.returns
returns c = few_entries
