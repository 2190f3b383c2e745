use Rattle.spl_meaning.proofs.RunLaws.{prints_grow}
use Rattle.spl_meaning.proofs.laws.prints_only_grow.Goals as goal

-- one step more at a time
pub returns : goal.returns
returns c = prints_grow
