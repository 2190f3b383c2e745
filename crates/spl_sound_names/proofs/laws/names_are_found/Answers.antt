-- Places stand in the order of the names whose they are.
use Rattle.spl_sound_names.proofs.Levels.{list_found}
use Rattle.spl_sound_names.proofs.Units.{heading_found}
use Rattle.spl_sound_names.proofs.laws.names_are_found.Goals as goal

pub returns-clause-list : goal.returns-clause-list
returns-clause-list c = list_found

pub returns-clause-parameters : goal.returns-clause-parameters
returns-clause-parameters c = heading_found
