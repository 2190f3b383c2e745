-- The code of a unit from its beginning to its modules.
use Rattle.std.specs.Prelude.{◌≡◌, ℕ, ◌+◌, Bool, true, false, if◌then◌else◌, List, [], ◌∷◌, ◌++◌, Option, unwrap_or}
use Rattle.std.specs.List.{slice_get}
use Rattle.spl_sound_labels.specs.spl_tree.DeclarationTrees as decl
use Rattle.spl_sound_labels.specs.spl_tree.DeclarationTrees.{Declaration, Declarations, declarations}
use Rattle.spl_sound_labels.specs.spl_tree.StatementTrees.{Statement, statements}
use Rattle.spl_sound_labels.specs.spl_meaning.Names.{find, nothing_declared}
use Rattle.spl_sound_labels.specs.spl_meaning.Tables.{Source}
use Rattle.spl_sound_labels.specs.spl_meaning.Places.{item_words}
use Rattle.spl_sound_labels.specs.spl_meaning.StatementRules.{label_faults}
use Rattle.spl_routine_code.specs.spl_found.OwnNames.{behind_declarations}
use Rattle.spl_sound_labels.specs.spl_places.Counters.{total_words}
use Rattle.spl_sound_labels.specs.spl_places.Programs.{unit_items}
use Rattle.spl_routine_code.specs.spl_rooms.declared.room_type.Room.{Room}
use Rattle.spl_routine_code.specs.spl_branch.declared.modules.Module.{Module}
use Rattle.spl_unit_codes.specs.spl_modules.Entered.{Walk}
use Rattle.spl_unit_codes.specs.spl_modules.UnitModules.{IsUnitModules}
use Rattle.spl_unit_codes.specs.spl_module_code.Modules.{numbered}
use Rattle.spl_routine_code.specs.spl_body_scopes.Levels.{Level, unit_level}
use Rattle.spl_routine_code.specs.Routines.{inners_among, room_at, MainBodyStands}
use Rattle.spl_unit_codes.specs.declared.growing.Growing.{Growing}
use Rattle.spl_unit_codes.specs.Begun.{AreBegun}
use Rattle.spl_unit_codes.specs.Slots.{AreSlots, Picked}
use Rattle.spl_unit_laws.specs.declared.cursors.Cursor.{Cursor}
use Rattle.spl_unit_laws.specs.declared.cursors.Start.{Start}
use Rattle.spl_unit_laws.specs.Known.{Fixed, Known}
use Rattle.spl_unit_laws.specs.Steps.{Grows, Steps, AreFree, OnceInAll}

-- ---- the main body

-- its code behind that of its segment
pub record MainGrows (f : Fixed) (ss : List Statement) (depth : ℕ) (x y : Growing) : Type 0 where
  pub code : MainBodyStands f.whole (record { procedures = f.procedures f.segment; subroutines = f.main_inner }) ss depth x.done x.code y.code
  pub done : y.done ≡ x.done

-- a subprogram has none
abbrev pub MainStep : Bool → Fixed → List Statement → ℕ → List Growing → List Growing → Type 0
MainStep true f ss depth old new = new ≡ old
MainStep false f ss depth old new = Grows f.segment (MainGrows f ss depth) old new

-- ---- a unit

-- how many rooms the procedures of a list have, with those of their subroutines
abbrev pub routine_rooms : Declaration → ℕ
routine_rooms (decl.Declaration.procedure h items ss) = 1 + inners_among items
routine_rooms d = 0

abbrev pub rooms_among : Declarations → ℕ
rooms_among decl.none = 0
rooms_among (decl.and d ds) = routine_rooms d + rooms_among ds

-- the rooms of its main body
abbrev pub main_rooms : Bool → ℕ
main_rooms subprogram = if subprogram then 0 else 1

-- where its walk begins
abbrev pub first_cursor : Source → Start → Cursor
first_cursor u at = record {
  routines = 0;
  own = at.own;
  own_arrays = at.own_arrays;
  room = at.room + main_rooms u.subprogram;
  inner_room = (at.room + main_rooms u.subprogram) + rooms_among (declarations u.tree.items);
}

-- the level of its list, behind all declarations
abbrev pub whole_level : Source → ℕ → Level
whole_level u primary = record {
  names = behind_declarations nothing_declared nothing_declared (declarations u.tree.items);
  places = (unit_level primary (declarations u.tree.items)).places;
}

-- what stays the same for it
abbrev pub fixed_for : Source → Walk → ℕ → List Room → Fixed
fixed_for u w primary rooms = record {
  segment = u.tree.segment;
  whole = whole_level u primary;
  procedures = w.entered.procedures;
  inner = λ i. unwrap_or (slice_get w.routines i) (find []);
  main_inner = w.main_body;
  rooms = rooms;
}

-- the modules of a unit were made, whose data and rooms begin at `at`, and those of the next at `next`
pub record UnitStands (rooms : List Room) (names : List (List ℕ)) (u : Source) (at next : Start) (ms : List Module) : Type 0 where
  pub entries : Walk
  pub entries_are : IsUnitModules u entries
  pub first : List Growing
  pub begun : AreBegun u entries.entered.made first
  pub last : Known
  pub steps : Steps (fixed_for u entries at.primary rooms) (declarations u.tree.items)
      (record { level = unit_level at.primary (declarations u.tree.items); at = first_cursor u at; parts = first }) last
  pub free : AreFree u.subprogram u.tree.segment decl.none last.parts
  pub whole : List Growing
  pub main : MainStep u.subprogram (fixed_for u entries at.primary rooms) u.tree.statements (room_at rooms at.room).depth last.parts whole
  pub slots : List (Option Module)
  pub are_slots : AreSlots whole slots
  pub picked : Picked (find (numbered 0 u.segments)) slots names ms
  pub next_is : next ≡ record { primary = at.primary + total_words false item_words (unit_items u); own = last.at.own; own_arrays = last.at.own_arrays; room = last.at.inner_room }

-- they stand behind others
abbrev pub UnitAppended : List Room → List (List ℕ) → Source → Start → Start → List Module → List Module → Type 0
UnitAppended rooms names u at next old new = (ms : List Module) × (new ≡ old ++ ms) × UnitStands rooms names u at next ms

-- no label stands twice in any of its bodies
abbrev pub OnceInBodies : Source → Type 0
OnceInBodies u = (label_faults (statements u.tree.statements) ≡ []) × OnceInAll (declarations u.tree.items)

-- the modules of units in order
pub data UnitsStand (rooms : List Room) (names : List (List ℕ)) : List Source → Start → List Module → Type 0 where
  none : {at : Start} → UnitsStand rooms names [] at []
  more : {u : Source} {us : List Source} {at next : Start} {ms ns : List Module} → UnitStands rooms names u at next ms → UnitsStand rooms names us next ns
      → UnitsStand rooms names (u ∷ us) at (ms ++ ns)
