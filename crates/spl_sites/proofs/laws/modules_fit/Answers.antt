-- The starts of the module, moved by its base.
use Rattle.spl_sites.proofs.FitLemmas.{modules_fit}
use Rattle.spl_sites.proofs.laws.modules_fit.Goals as goal

pub returns : goal.returns
returns c = λ p near ms seg front m back is code f segment entries w there few lies well kinds set calls.
    modules_fit p near ms seg front m back is code f segment entries w there few lies well kinds set calls
