-- Along the tree.
use Rattle.spl_statement_code.proofs.CountLaws.{few_listed}
use Rattle.spl_statement_code.proofs.laws.statements_have_few_words.Goals as goal

pub returns : goal.returns
returns c s ss k l ws le = (few_listed s ss k le).few l ws
