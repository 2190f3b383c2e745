use Rattle.spl_verdicts.proofs.PartVerdictLaws.{not_refused}
use Rattle.spl_verdicts.proofs.whole_parts_are_not_refused.Goals as goal

-- behind a part reading goes on over the token, or ends there
pub returns : goal.returns
returns c = λ k room e t ts rest v q. not_refused room v q
