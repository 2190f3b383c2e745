use Rattle.spl_nesting.proofs.HeightBounds.{few_words}
use Rattle.spl_nesting.proofs.laws.parts_have_few_words.Goals as goal

-- along the tree
pub returns : goal.returns
returns c = few_words
