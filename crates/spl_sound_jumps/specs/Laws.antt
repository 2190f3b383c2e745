-- The laws of this crate: in a body that breaks no rule labels and jumps lead somewhere, where its labels have marks of their own from one on.
use Rattle.std.specs.Prelude.{◌≡◌, ℕ, true, List, []}
use Rattle.spl_sound_labels.specs.spl_tree.StatementTrees as stat
use Rattle.spl_sound_labels.specs.spl_tree.StatementTrees.{Statements, statements}
use Rattle.spl_sound_labels.specs.spl_meaning.Names.{find}
use Rattle.spl_sound_labels.specs.spl_meaning.Tables.{Source, Routine, Subroutine, routines_of, routine_subroutines, unit_subroutines}
use Rattle.spl_sound_labels.specs.spl_meaning.ExpressionRules.{Scope}
use Rattle.spl_sound_labels.specs.spl_meaning.StatementRules.{list_labels, body_faults}
use Rattle.spl_sound_labels.specs.spl_meaning.Sound.{IsSound}
use Rattle.spl_label_marks.specs.spl_places.Programs.{Each}
use Rattle.spl_label_marks.specs.spl_module_code.LabelsOfBodies.{labels_among, landed_from}
use Rattle.spl_jumps.specs.Landed.{are_landed}

-- the labels of a body's statements lead to marks from one on, each of its own, and so its jumps lead somewhere
abbrev pub Lands : Statements → Type 0
Lands ss = (mark : ℕ) → are_landed (find (landed_from mark (labels_among ss 0))) (list_labels ss) ss 0 ≡ true

-- a body that breaks no rule
abbrev pub SoundBodiesLand : Type 0
SoundBodiesLand = (sc : Scope) (ss : Statements) → body_faults sc ss ≡ [] → Lands ss

-- the statements of a unit's main body
abbrev pub LandsInUnit : Source → Type 0
LandsInUnit u = Lands (statements u.tree.statements)

-- units that break no rule
abbrev pub SoundMainsLand : Type 0
SoundMainsLand = (us : List Source) → IsSound us → Each LandsInUnit us

-- the statements of a procedure, without those of its subroutines
abbrev pub LandsInRoutine : Routine → Type 0
LandsInRoutine r = Lands (statements r.statements)

-- those of a unit's procedures
abbrev pub LandsInRoutines : Source → Type 0
LandsInRoutines u = Each LandsInRoutine (routines_of u)

abbrev pub SoundRoutinesLand : Type 0
SoundRoutinesLand = (us : List Source) → IsSound us → Each LandsInRoutines us

-- a subroutine's statement is in no list: so its jumps lead to labels within it
abbrev pub LandsInInner : Subroutine → Type 0
LandsInInner s =
    (mark : ℕ) → are_landed (find (landed_from mark (labels_among (stat.Statements.and s.statement stat.Statements.none) 0))) []
    (stat.Statements.and s.statement stat.Statements.none) 0 ≡ true

-- those of a procedure's subroutines
abbrev pub LandsInInnersOf : Routine → Type 0
LandsInInnersOf r = Each LandsInInner (routine_subroutines r)

-- those of a unit: of its main body, and of its procedures
abbrev pub LandsInInners : Source → Type 0
LandsInInners u = Each LandsInInner (unit_subroutines u) × Each LandsInInnersOf (routines_of u)

abbrev pub SoundInnersLand : Type 0
SoundInnersLand = (us : List Source) → IsSound us → Each LandsInInners us
