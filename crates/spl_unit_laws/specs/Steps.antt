-- What a declaration adds to the code of a unit.
use Rattle.std.specs.Prelude.{◌≡◌, ℕ, ◌+◌, Bool, true, false, nat_eq, if◌then◌else◌, List, [], ◌++◌, length, replicate, Some}
use Rattle.std.specs.List.{slice_get}
use Rattle.spl_sound_labels.specs.spl_tree.DeclarationTrees as decl
use Rattle.spl_sound_labels.specs.spl_tree.DeclarationTrees.{Heading, Declaration, Declarations}
use Rattle.spl_sound_labels.specs.spl_tree.StatementTrees.{Statement, statements}
use Rattle.spl_sound_labels.specs.spl_meaning.Names.{Names, nothing_declared}
use Rattle.spl_sound_labels.specs.spl_meaning.Places.{item_words, array_words}
use Rattle.spl_sound_labels.specs.spl_meaning.StatementRules.{label_faults}
use Rattle.spl_routine_code.specs.spl_found.OwnNames.{behind_declaration}
use Rattle.spl_sound_labels.specs.spl_places.Counters.{total_words}
use Rattle.spl_routine_code.specs.spl_places.Gathered.{items_under}
use Rattle.spl_routine_code.specs.spl_body_scopes.Levels.{Level, routine_level}
use Rattle.spl_routine_code.specs.spl_body_scopes.Results.{routine_result}
use Rattle.spl_routine_code.specs.Generates.{AreOpen}
use Rattle.spl_routine_code.specs.Routines.{Around, OnceIn, OnceAmong, inners_among, room_at, InnerStands, RoutineStands}
use Rattle.spl_unit_codes.specs.declared.growing.Growing.{Growing}
use Rattle.spl_unit_laws.specs.declared.cursors.Cursor.{Cursor}
use Rattle.spl_unit_laws.specs.Known.{Fixed, Known, main_around}

-- the code of one segment has grown, where there is one, and no other has changed
pub record Grows (g : ℕ) (P : Growing → Growing → Type 0) (old new : List Growing) : Type 0 where
  pub number : length new ≡ length old
  pub there : (x : Growing) → slice_get old g ≡ Some x → (y : Growing) × (slice_get new g ≡ Some y) × P x y
  pub others : (h : ℕ) → nat_eq g h ≡ false → slice_get new h ≡ slice_get old h

-- the level behind a declaration
abbrev pub level_behind : Level → Declaration → Level
level_behind level d = record { names = behind_declaration nothing_declared level.names d; places = level.places }

-- ---- procedures

-- what stands around the subroutines of a procedure, where its unit's level behind its heading is `outer`
abbrev pub routine_around : Fixed → Level → Cursor → Heading → Declarations → Around
routine_around f outer at h items = record {
  own = routine_level outer.names at.own h items;
  outer = outer;
  result = routine_result (routine_level outer.names at.own h items).names h;
  calls = record { procedures = f.procedures h.segment; subroutines = f.inner at.routines };
}

-- the cursor behind a procedure
abbrev pub cursor_behind : Names → Cursor → Heading → Declarations → Cursor
cursor_behind here at h items = record {
  routines = at.routines + 1;
  own = at.own + total_words true item_words (items_under here h items);
  own_arrays = at.own_arrays + total_words true array_words (items_under here h items);
  room = at.room + (1 + inners_among items);
  inner_room = at.inner_room;
}

-- its code behind that of its segment
pub record RoutineGrows (f : Fixed) (outer : Level) (at : Cursor) (h : Heading) (items : Declarations) (ss : List Statement) (x y : Growing) : Type 0 where
  pub code : RoutineStands (routine_around f outer at h items) f.rooms at.room outer.names at.own at.own_arrays h items ss x.done x.code y.code
  pub done : y.done ≡ x.done + (1 + inners_among items)

-- ---- subroutines of the main body

abbrev pub cursor_inner : Cursor → Cursor
cursor_inner at = record { routines = at.routines; own = at.own; own_arrays = at.own_arrays; room = at.room; inner_room = at.inner_room + 1 }

pub record InnerGrows (f : Fixed) (at : Cursor) (h : Heading) (s : Statement) (x y : Growing) : Type 0 where
  pub code : InnerStands (main_around f) h s (room_at f.rooms at.inner_room).depth x.done x.code y.code
  pub done : y.done ≡ x.done + 1

-- ---- declarations

-- what a declaration does, where its unit's level behind it is `outer`
abbrev pub PartsStep : Fixed → Level → Declaration → Cursor → List Growing → Cursor → List Growing → Type 0
PartsStep f outer (decl.Declaration.procedure h items ss) at old next new =
    (next ≡ cursor_behind outer.names at h items) × Grows h.segment (RoutineGrows f outer at h items ss) old new
PartsStep f outer (decl.Declaration.subroutine h s) at old next new = (next ≡ cursor_inner at) × Grows f.segment (InnerGrows f at h s) old new
PartsStep f outer other at old next new = (next ≡ at) × (new ≡ old)

-- a declaration
pub record Step (f : Fixed) (d : Declaration) (k l : Known) : Type 0 where
  pub level : l.level ≡ level_behind k.level d
  pub parts : PartsStep f l.level d k.at k.parts l.at l.parts

-- declarations in order
pub data Steps (f : Fixed) : Declarations → Known → Known → Type 0 where
  none : {k : Known} → Steps f decl.none k k
  more : {d : Declaration} {ds : Declarations} {k l m : Known} → Step f d k l → Steps f ds l m → Steps f (decl.and d ds) k m

-- ---- what is asked for

-- how many entries a declaration has in a segment, in a unit with its main body in another
abbrev pub entry_count : ℕ → ℕ → Declaration → ℕ
entry_count main g (decl.Declaration.procedure h items ss) = if nat_eq h.segment g then 1 + inners_among items else 0
entry_count main g (decl.Declaration.subroutine h s) = if nat_eq main g then 1 else 0
entry_count main g d = 0

-- and declarations in order
abbrev pub entries_count : ℕ → ℕ → Declarations → ℕ
entries_count main g decl.none = 0
entries_count main g (decl.and d ds) = entry_count main g d + entries_count main g ds

-- so many marks are set at first, so many behind them are not, and all others are
pub record IsOpen (done todo : ℕ) (marks : List Bool) : Type 0 where
  pub others : ℕ
  pub is : marks ≡ replicate done true ++ (replicate todo false ++ replicate others true)

-- the marks of a declaration's entries may be set
abbrev pub IsFree : ℕ → Declaration → List Growing → Type 0
IsFree main (decl.Declaration.procedure h items ss) parts = (x : Growing) → slice_get parts h.segment ≡ Some x → AreOpen x.done (1 + inners_among items) x.code.marks.items
IsFree main (decl.Declaration.subroutine h s) parts = (x : Growing) → slice_get parts main ≡ Some x → AreOpen x.done 1 x.code.marks.items
IsFree main other parts = Unit {0}

-- a mark is left for the main body in its segment
abbrev pub main_count : Bool → ℕ → ℕ → ℕ
main_count subprogram main g = if subprogram then 0 else if nat_eq main g then 1 else 0

-- the marks of the entries of these declarations are not set, nor that of the main body
abbrev pub AreFree : Bool → ℕ → Declarations → List Growing → Type 0
AreFree subprogram main ds parts = (g : ℕ) (x : Growing) → slice_get parts g ≡ Some x
    → IsOpen x.done (entries_count main g ds + main_count subprogram main g) x.code.marks.items

-- no label stands twice in a declaration's bodies
abbrev pub OnceInUnit : Declaration → Type 0
OnceInUnit (decl.Declaration.procedure h items ss) = (label_faults (statements ss) ≡ []) × OnceAmong items
OnceInUnit d = OnceIn d

abbrev pub OnceInAll : Declarations → Type 0
OnceInAll decl.none = Unit {0}
OnceInAll (decl.and d ds) = OnceInUnit d × OnceInAll ds
