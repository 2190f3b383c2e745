-- Procedures with their subroutines, and main bodies, as they are generated through levels of names.
use Rattle.std.specs.Prelude.{◌≡◌, ℕ, ◌+◌, List, [], ◌∷◌, None, unwrap_or}
use Rattle.std.specs.List.{slice_get}
use Rattle.spl_tree.specs.DeclarationTrees as decl
use Rattle.spl_tree.specs.DeclarationTrees.{Heading, Declaration, Declarations}
use Rattle.spl_tree.specs.StatementTrees.{Statement, statements}
use Rattle.spl_sorts.specs.spl_meaning.Names.{Names, Table, formals_of}
use Rattle.spl_sorts.specs.spl_meaning.Places.{Place}
use Rattle.spl_sorts.specs.spl_meaning.Tables.{Routine, outer_names}
use Rattle.spl_sorts.specs.spl_meaning.Pending.{formals_words}
use Rattle.spl_sorts.specs.spl_meaning.StatementRules.{label_faults}
use Rattle.spl_sorts.specs.spl_meaning.Bodies.{procedure_body}
use Rattle.spl_statement_scopes.specs.spl_places.Programs.{NewInRoutine}
use Rattle.spl_rooms.specs.declared.room_type.Room.{Room}
use Rattle.spl_rooms.specs.Rooms.{routine_room}
use Rattle.spl_branch.specs.declared.buffer.Code.{Code}
use Rattle.spl_label_marks.specs.spl_code.Calls.{Scope}
use Rattle.spl_label_marks.specs.spl_body_code.Bodies.{Frame, frame_of}
use Rattle.spl_statement_scopes.specs.spl_scopes.Scopes.{Results}
use Rattle.spl_statement_scopes.specs.spl_body_scopes.declared.places.Base.TheVariants as base
use Rattle.spl_statement_scopes.specs.spl_body_scopes.Levels.{Level, inner_level}
use Rattle.spl_statement_scopes.specs.spl_body_scopes.Results.{result_of, heading_result, results_through}
use Rattle.spl_statement_scopes.specs.spl_body_scopes.Found.{Calls}
use Rattle.spl_statement_scopes.specs.Levels.{no_names, with_results}
use Rattle.spl_statement_scopes.specs.Scopes.{StatesRoutine, StatesInner, StatesMain, StatesMainInner}
use Rattle.spl_routine_code.specs.Bodies.{statements_part}
use Rattle.spl_routine_code.specs.Generates.{Generates}
use Rattle.spl_routine_code.specs.Scoped.{procedure_with, subroutine_with, main_with}

-- ---- rooms by number

-- a room of nothing, behind the last
abbrev pub no_room : Room
no_room = record { at = record { unit = 0; line = 0; column = 0 }; locals = 0; depth = 0; result = None }

-- the room of a number
abbrev pub room_at : List Room → ℕ → Room
room_at rooms k = unwrap_or (slice_get rooms k) no_room

-- ---- subroutines

-- no label stands twice in a subroutine
abbrev pub OnceIn : Declaration → Type 0
OnceIn (decl.Declaration.subroutine h s) = label_faults (statements (s ∷ [])) ≡ []
OnceIn d = Unit {0}

-- nor in any of a list
abbrev pub OnceAmong : Declarations → Type 0
OnceAmong decl.none = Unit {0}
OnceAmong (decl.and d ds) = OnceIn d × OnceAmong ds

-- how many subroutines a declaration is
abbrev pub inner_count : Declaration → ℕ
inner_count (decl.Declaration.subroutine h s) = 1
inner_count d = 0

-- and how many there are in a list
abbrev pub inners_among : Declarations → ℕ
inners_among decl.none = 0
inners_among (decl.and d ds) = inner_count d + inners_among ds

-- what stands around a subroutine: the level of its body's own names and the unit's, the result there, and the entries that are called
pub record Around : Type 0 where
  pub own : Level
  pub outer : Level
  pub result : Results
  pub calls : Calls

-- the first level of a subroutine's statements
abbrev pub inner_first : Around → Heading → Level
inner_first a h = with_results (inner_level h) a.own a.outer (results_through (heading_result base.Return h) a.result)

-- a subroutine was appended: its statement sees a scope through these levels
pub record InnerStands (a : Around) (h : Heading) (s : Statement) (depth entry : ℕ) (c d : Code) : Type 0 where
  pub scope : Scope
  pub inner : StatesInner (inner_first a h) a.own a.outer a.calls scope
  pub main_inner : StatesMainInner (inner_first a h) a.own a.outer a.calls scope
  pub stands : Generates entry (subroutine_with depth (formals_words (formals_of h)) entry (statements_part scope (statements (s ∷ [])))) c d

-- a declaration, where it is a subroutine, which has the room of a number
abbrev pub InnerStep : Around → List Room → Declaration → ℕ → ℕ → Code → Code → Type 0
InnerStep a rooms (decl.Declaration.subroutine h s) k entry c d = InnerStands a h s (room_at rooms k).depth entry c d
InnerStep a rooms other k entry c d = d ≡ c

-- the subroutines of a list, the first of which has the room of a number, and an entry of another
pub data InnersStand (a : Around) (rooms : List Room) : Declarations → ℕ → ℕ → Code → Code → Type 0 where
  none : {k entry : ℕ} {c : Code} → InnersStand a rooms decl.none k entry c c
  more : {d : Declaration} {ds : Declarations} {k entry : ℕ} {c e f : Code} → InnerStep a rooms d k entry c e
      → InnersStand a rooms ds (k + inner_count d) (entry + inner_count d) e f → InnersStand a rooms (decl.and d ds) k entry c f

-- ---- procedures

-- a frame is that of a procedure with this heading and list, this room, and these names outside it, the first OWN item of which and the data of
-- the first OWN array of which stand there
abbrev pub FrameFits : Names → ℕ → ℕ → Heading → Declarations → Room → Frame → Type 0
FrameFits outer own own_arrays h items room frame = (globals : Table Place) (r : Routine) → NewInRoutine r → r.heading ≡ h → r.items ≡ items → outer_names r ≡ outer → room ≡ routine_room r
    → frame ≡ frame_of (procedure_body globals own own_arrays r)

-- a procedure was appended without its subroutines: its statements see a scope through these levels
pub record ProcedureStands (a : Around) (outer : Names) (own own_arrays : ℕ) (h : Heading) (items : Declarations) (room : Room) (ss : List Statement) (entry : ℕ) (c d : Code) : Type 0 where
  pub scope : Scope
  pub states : StatesRoutine (with_results no_names a.own a.outer a.result) a.own a.outer a.calls scope
  pub frame : Frame
  pub fits : FrameFits outer own own_arrays h items room frame
  pub stands : Generates entry (procedure_with frame (formals_words (formals_of h)) entry (statements_part scope (statements ss))) c d

-- a procedure was appended behind its subroutines; its room has a number, and behind it stand those of its subroutines
pub record RoutineStands (a : Around) (rooms : List Room) (k : ℕ) (outer : Names) (own own_arrays : ℕ) (h : Heading) (items : Declarations) (ss : List Statement) (entry : ℕ) (c d : Code) : Type 0 where
  pub middle : Code
  pub inners : InnersStand a rooms items (k + 1) (entry + 1) c middle
  pub stands : ProcedureStands a outer own own_arrays h items (room_at rooms k) ss entry middle d

-- ---- main bodies

-- a main body was appended, which sees its unit's level alone
pub record MainBodyStands (outer : Level) (calls : Calls) (ss : List Statement) (depth entry : ℕ) (c d : Code) : Type 0 where
  pub scope : Scope
  pub states : StatesMain (with_results no_names outer outer (results_through (result_of None) (result_of None))) outer outer calls scope
  pub stands : Generates entry (main_with depth entry (statements_part scope (statements ss) entry)) c d
