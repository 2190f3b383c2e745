use Rattle.spl_verdicts.proofs.PartVerdictLaws.{one_verdict}
use Rattle.spl_verdicts.proofs.part_verdicts_are_unique.Goals as goal

-- no chain goes over a token with which no part begins, and a part that ends there is the one that is read
pub returns : goal.returns
returns c = λ k d ts o p v w. one_verdict v w
