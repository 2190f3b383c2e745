-- Declaration by declaration.
use Rattle.spl_sound_names.proofs.Units.{units_are_known, locals_known}
use Rattle.spl_sound_names.proofs.laws.names_are_known.Goals as goal

pub returns-clause-unit : goal.returns-clause-unit
returns-clause-unit c = units_are_known

pub returns-clause-local : goal.returns-clause-local
returns-clause-local c = locals_known
