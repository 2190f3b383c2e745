-- Bodies in which at most 255 words wait for loops: those of all units, of their procedures and of the subroutines of both.
use Rattle.std.specs.Prelude.{◌≡◌, ◌*◌, ◌≤◌, List}
use Rattle.spl_statement_code.specs.spl_tree.StatementTrees as stat
use Rattle.spl_statement_code.specs.spl_tree.StatementTrees.{Statements, statements}
use Rattle.spl_statement_code.specs.spl_meaning.Tables.{Source, Routine, Subroutine, routine_subroutines, unit_subroutines}
use Rattle.spl_statement_code.specs.spl_meaning.Bodies.{all_routines}
use Rattle.spl_nesting.specs.spl_sound.Spelled.{AreSpelled}
use Rattle.spl_nesting.specs.Nesting.{fors_among}
use Rattle.spl_statement_code.specs.FewWords.{nested_among}
use Rattle.spl_places.specs.Programs.{Each}

-- each FOR around a statement has three words
abbrev pub FewLoops : Statements → Type 0
FewLoops ss = 3 * nested_among ss ≤ 255

-- a subroutine's body is its one statement
abbrev pub FewLoopsInSubroutine : Subroutine → Type 0
FewLoopsInSubroutine s = FewLoops (stat.Statements.and s.statement stat.Statements.none)

-- a procedure, with its subroutines
abbrev pub FewLoopsInRoutine : Routine → Type 0
FewLoopsInRoutine r = FewLoops (statements r.statements) × Each FewLoopsInSubroutine (routine_subroutines r)

-- the main body of a unit, with its subroutines
abbrev pub FewLoopsInUnit : Source → Type 0
FewLoopsInUnit u = FewLoops (statements u.tree.statements) × Each FewLoopsInSubroutine (unit_subroutines u)

-- and so it is in all bodies of some units
abbrev pub FewLoopsInAll : List Source → Type 0
FewLoopsInAll us = Each FewLoopsInUnit us × Each FewLoopsInRoutine (all_routines us)

-- ---- laws

abbrev pub LoopsAreFors : Type 0
LoopsAreFors = (ss : Statements) → nested_among ss ≡ fors_among ss

abbrev pub FewLoopsNest : Type 0
FewLoopsNest = (us : List Source) → AreSpelled us → FewLoopsInAll us
