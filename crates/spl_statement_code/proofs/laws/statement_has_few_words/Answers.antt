-- Along the tree.
use Rattle.spl_statement_code.proofs.CountLaws.{few_statement}
use Rattle.spl_statement_code.proofs.laws.statement_has_few_words.Goals as goal

pub returns : goal.returns
returns c = few_statement
