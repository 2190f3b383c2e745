-- The word of a local label is its offset.
use Rattle.spl_ways.proofs.MainLemmas.{main_starts}
use Rattle.spl_ways.proofs.laws.main_entries_start.Goals as goal

pub returns : goal.returns
returns c = main_starts
