-- A unit stands in front of the program of those behind it.
use Rattle.spl_scopes.proofs.ProgramLaws.{procedures_of_units, main_of_units}
use Rattle.spl_scopes.proofs.laws.bodies_are_of_the_program.Goals as goal

pub returns-clause-procedures : goal.returns-clause-procedures
returns-clause-procedures c = procedures_of_units

pub returns-clause-main : goal.returns-clause-main
returns-clause-main c = main_of_units
