-- Where nothing passes a number, the whole sum is within it.
use Rattle.spl_fits.proofs.FitLaws.{programs_fit}
use Rattle.spl_fits.proofs.laws.programs_fit.Goals as goal

pub returns : goal.returns
returns c = programs_fit
