-- Bodies in which no label stands twice: those of all units, of their procedures and of the subroutines of both.
use Rattle.std.specs.Prelude.{◌≡◌, true, List, []}
use Rattle.spl_places.specs.spl_tree.StatementTrees as stat
use Rattle.spl_places.specs.spl_tree.StatementTrees.{Statements, statements}
use Rattle.spl_places.specs.spl_meaning.Tables.{Source, Routine, Subroutine, routine_subroutines, unit_subroutines}
use Rattle.spl_places.specs.spl_meaning.Bodies.{all_routines}
use Rattle.spl_places.specs.spl_meaning.StatementRules.{label_faults}
use Rattle.spl_places.specs.spl_meaning.Sound.{IsSound}
use Rattle.spl_places.specs.Programs.{Each}

-- each label of a body's statements stands there once
abbrev pub LabelsOnce : Statements → Type 0
LabelsOnce ss = label_faults ss ≡ []

-- a subroutine's body is its one statement
abbrev pub LabelsOnceInSubroutine : Subroutine → Type 0
LabelsOnceInSubroutine s = LabelsOnce (stat.Statements.and s.statement stat.Statements.none)

-- a procedure, with its subroutines
abbrev pub LabelsOnceInRoutine : Routine → Type 0
LabelsOnceInRoutine r = LabelsOnce (statements r.statements) × Each LabelsOnceInSubroutine (routine_subroutines r)

-- the main body of a unit, with its subroutines; so it is in a subprogram too
abbrev pub LabelsOnceInUnit : Source → Type 0
LabelsOnceInUnit u = LabelsOnce (statements u.tree.statements) × Each LabelsOnceInSubroutine (unit_subroutines u)

-- and so it is in all bodies of some units
abbrev pub LabelsOnceInAll : List Source → Type 0
LabelsOnceInAll us = Each LabelsOnceInUnit us × Each LabelsOnceInRoutine (all_routines us)

-- a subprogram has no subroutines
abbrev pub NoSubroutines : Source → Type 0
NoSubroutines u = u.subprogram ≡ true → unit_subroutines u ≡ []

-- ---- laws

abbrev pub SoundSubprogramsHaveNoSubroutines : Type 0
SoundSubprogramsHaveNoSubroutines = (us : List Source) → IsSound us → Each NoSubroutines us

abbrev pub SoundLabelsStandOnce : Type 0
SoundLabelsStandOnce = (us : List Source) → IsSound us → LabelsOnceInAll us
