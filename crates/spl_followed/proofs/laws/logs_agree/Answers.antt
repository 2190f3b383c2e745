-- As with what is printed, where what is met is complete.
use Rattle.spl_followed.proofs.LogLaws.{logs_agree}
use Rattle.spl_followed.proofs.laws.logs_agree.Goals as goal

pub returns : goal.returns
returns c = logs_agree
