-- Along the tree.
use Rattle.spl_code.proofs.CountLaws.{few_reference}
use Rattle.spl_code.proofs.laws.reference_has_few_words.Goals as goal

pub returns : goal.returns
returns c = few_reference
