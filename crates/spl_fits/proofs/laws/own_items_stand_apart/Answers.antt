-- Each item's words are among those of its list.
use Rattle.spl_fits.proofs.BehindLaws.{apart}
use Rattle.spl_fits.proofs.laws.own_items_stand_apart.Goals as goal

pub returns : goal.returns
returns c = apart
