use Rattle.spl_meaning.proofs.RunLaws.{bounds_do_not_matter}
use Rattle.spl_meaning.proofs.laws.bounds_do_not_matter.Goals as goal

-- one larger bound after another
pub returns : goal.returns
returns c = bounds_do_not_matter
