-- The name of each is one that the units use.
use Rattle.spl_bounds.proofs.Words.{keep_bounds}
use Rattle.spl_bounds.proofs.Few.{segments_few}
use Rattle.spl_bounds.proofs.laws.segments_have_few_words.Goals as goal

pub returns : goal.returns
returns c = segments_few keep_bounds
