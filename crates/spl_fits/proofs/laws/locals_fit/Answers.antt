-- An item's words are among those of its list.
use Rattle.spl_fits.proofs.FitLaws.{locals_fit}
use Rattle.spl_fits.proofs.laws.locals_fit.Goals as goal

pub returns : goal.returns
returns c = locals_fit
