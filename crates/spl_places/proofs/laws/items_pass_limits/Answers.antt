-- The sums run along the same items.
use Rattle.spl_places.proofs.ProgramLaws.{global_is, local_is}
use Rattle.spl_places.proofs.laws.items_pass_limits.Goals as goal

pub returns : goal.returns
returns c = record { global = global_is; local = local_is }
