use Rattle.spl_grammar.proofs.VerdictLaws.{one_verdict}
use Rattle.spl_grammar.proofs.verdict_laws.verdicts_are_unique.Goals as goal

-- no chain goes over a token with which no unit begins, and the first of two places is one
pub returns : goal.returns
returns c = λ ts o p v w. one_verdict v w
