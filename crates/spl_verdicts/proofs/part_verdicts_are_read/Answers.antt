use Rattle.spl_verdicts.proofs.PartVerdictLaws.{verdict_exact}
use Rattle.spl_verdicts.proofs.part_verdicts_are_read.Goals as goal

-- what is read is explained, no chain goes further, and a list has one verdict
pub returns : goal.returns
returns c = λ k d room ts o sum e. verdict_exact room o sum e
