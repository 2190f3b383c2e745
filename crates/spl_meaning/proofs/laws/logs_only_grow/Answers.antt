use Rattle.spl_meaning.proofs.RunLaws.{logs_grow}
use Rattle.spl_meaning.proofs.laws.logs_only_grow.Goals as goal

-- one step more at a time
pub returns : goal.returns
returns c = logs_grow
