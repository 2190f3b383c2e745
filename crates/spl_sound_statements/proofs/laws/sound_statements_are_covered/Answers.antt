-- Along the tree.
use Rattle.spl_sound_statements.proofs.Statements.{sound_statements, sound_lists}
use Rattle.spl_sound_statements.proofs.laws.sound_statements_are_covered.Goals as goal

pub returns-clause-statement : goal.returns-clause-statement
returns-clause-statement c = sound_statements

pub returns-clause-list : goal.returns-clause-list
returns-clause-list c = sound_lists
