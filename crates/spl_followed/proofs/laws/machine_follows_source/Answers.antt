-- Up from no step of the source, while its machine is not past the moment.
use Rattle.spl_followed.proofs.WayLaws.{forth}
use Rattle.spl_followed.proofs.laws.machine_follows_source.Goals as goal

pub returns : goal.returns
returns c = forth
