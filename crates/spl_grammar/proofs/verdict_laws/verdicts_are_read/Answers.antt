use Rattle.spl_grammar.proofs.VerdictLaws.{verdict_exact}
use Rattle.spl_grammar.proofs.verdict_laws.verdicts_are_read.Goals as goal

-- what is read is explained, no chain goes further, and a list has one verdict
pub returns : goal.returns
returns c = λ ts o e. verdict_exact o e
