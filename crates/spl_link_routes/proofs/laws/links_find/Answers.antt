-- By its entry, or by its place among the names that are wanted.
use Rattle.spl_link_routes.proofs.LinkLemmas.{links_find}
use Rattle.spl_link_routes.proofs.laws.links_find.Goals as goal

pub returns : goal.returns
returns c = links_find
