-- Globals are counted up to all of them, and OWN items from there.
use Rattle.spl_fits.proofs.BehindLaws.{in_order}
use Rattle.spl_fits.proofs.laws.units_stand_in_order.Goals as goal

pub returns : goal.returns
returns c = in_order
