-- It is the first of its name among the procedures of all units.
use Rattle.spl_routes.proofs.NameLemmas.{name_means}
use Rattle.spl_routes.proofs.laws.names_mean.Goals as goal

pub returns : goal.returns
returns c = λ us unique q among i b there. name_means us unique q among i b there
