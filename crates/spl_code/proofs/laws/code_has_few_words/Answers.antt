-- Along the tree.
use Rattle.spl_code.proofs.CountLaws.{few_code}
use Rattle.spl_code.proofs.laws.code_has_few_words.Goals as goal

pub returns : goal.returns
returns c = few_code
