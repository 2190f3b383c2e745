-- Each module lies where its base is.
use Rattle.spl_sites.proofs.ProgramLemmas.{programs_stand}
use Rattle.spl_sites.proofs.laws.programs_stand.Goals as goal

pub returns : goal.returns
returns c = programs_stand
