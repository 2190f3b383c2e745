-- A unit is appended where each of its parts is.
use Rattle.std.proofs.Common.{◌≡◌, ℕ, ◌+◌, false, List, [], Option, ap, subst}
use Rattle.std.specs.Prelude.{unwrap_or}
use Rattle.std.specs.List.{slice_get}
use Rattle.spl_tree.specs.DeclarationTrees as decl
use Rattle.spl_tree.specs.DeclarationTrees.{declarations}
use Rattle.spl_sound.specs.spl_meaning.Names.{find}
use Rattle.spl_sound.specs.spl_meaning.Tables.{Source}
use Rattle.spl_sound.specs.spl_meaning.Places.{item_words}
use Rattle.spl_unit_laws.specs.spl_places.Counters.{total_words}
use Rattle.spl_unit_laws.specs.spl_places.Programs.{unit_items}
use Rattle.spl_layout.specs.spl_rooms.declared.room_type.Room.{Room}
use Rattle.spl_branch.specs.declared.modules.Module.{Module}
use Rattle.spl_unit_laws.specs.spl_modules.Made.{Made}
use Rattle.spl_unit_laws.specs.spl_modules.Entered.{Walk}
use Rattle.spl_unit_laws.specs.spl_modules.UnitModules.{IsUnitModules}
use Rattle.spl_unit_laws.specs.spl_module_code.Modules.{numbered}
use Rattle.spl_unit_laws.specs.spl_body_scopes.Levels.{Level, unit_level}
use Rattle.spl_unit_laws.specs.spl_routine_code.Routines.{room_at}
use Rattle.spl_unit_laws.specs.spl_unit_codes.declared.growing.Growing.{Growing}
use Rattle.spl_unit_laws.specs.spl_unit_codes.Begun.{AreBegun}
use Rattle.spl_unit_laws.specs.spl_unit_codes.Slots.{AreComplete, AreSlots, PickedFrom}
use Rattle.spl_unit_laws.specs.declared.cursors.Cursor.{Cursor}
use Rattle.spl_unit_laws.specs.declared.cursors.Start.{Start}
use Rattle.spl_unit_laws.specs.Known.{Fixed}
use Rattle.spl_unit_laws.specs.Steps.{Steps, AreFree}
use Rattle.spl_unit_laws.specs.Begins.{UnitBegins}
use Rattle.spl_unit_laws.proofs.Completes.{codes_complete}
use Rattle.spl_unit_laws.specs.Units.{MainStep, UnitAppended, first_cursor, whole_level, fixed_for}
use Rattle.spl_unit_walks.specs.Bodies.{known_at, BodiesStand, PartsPicked, UnitMade}

-- what stays the same for a unit, where its whole level is this one
abbrev pub fixed_with : Source → Walk → Level → List Room → Fixed
fixed_with u w whole rooms = record {
  segment = u.tree.segment;
  whole = whole;
  procedures = w.entered.procedures;
  inner = λ i. unwrap_or (slice_get w.routines i) (find []);
  main_inner = w.main_body;
  rooms = rooms;
}

-- a unit's modules were appended
appended : (names : List (List ℕ)) (u : Source) (at next : Start) (w : Walk) (rooms : List Room) (old new : List Module) → IsUnitModules u w
    → UnitMade (fixed_for u w at.primary rooms) w.entered.made u names at next old new → UnitAppended rooms names u at next old new
appended names u at next w rooms old new entries m = (
  m.picked.picked.0,
  m.picked.picked.1,
  record {
    entries = w;
    entries_are = entries;
    first = m.first;
    begun = m.begun;
    last = known_at m.bodies.level m.last m.bodies.parts;
    steps = m.bodies.steps;
    free = m.bodies.free;
    whole = m.all;
    main = m.bodies.main;
    slots = m.picked.slots;
    are_slots = m.picked.are_slots;
    picked = m.picked.picked.2;
    next_is = m.next_is;
  },
)

pub unit_appended : (names : List (List ℕ)) (u : Source) (at next : Start) (w : Walk) (whole : Level) (rooms : List Room) (old new : List Module) → IsUnitModules u w
    → whole ≡ whole_level u at.primary → UnitMade (fixed_with u w whole rooms) w.entered.made u names at next old new → UnitAppended rooms names u at next old new
unit_appended names u at next w whole rooms old new entries is m =
    appended names u at next w rooms old new entries (subst (λ (l : Level). UnitMade (fixed_with u w l rooms) w.entered.made u names at next old new) is m)

-- behind all bodies each of its codes may be finished
whole_complete : (u : Source) (at : Start) (w : Walk) (level : Level) (rooms : List Room) (first all : List Growing) (last : Cursor) → UnitBegins rooms u at
    → IsUnitModules u w → level ≡ unit_level at.primary (declarations u.tree.items) → AreBegun u w.entered.made first
    → BodiesStand (fixed_for u w at.primary rooms) u (room_at rooms at.room).depth (known_at level (first_cursor u at) first) last all → AreComplete all
whole_complete u at w level rooms first all last begins entries is begun bodies =
    let b : BodiesStand (fixed_for u w at.primary rooms) u (room_at rooms at.room).depth
    (known_at (unit_level at.primary (declarations u.tree.items)) (first_cursor u at) first) last all =
    subst (λ (l : Level). BodiesStand (fixed_for u w at.primary rooms) u (room_at rooms at.room).depth (known_at l (first_cursor u at) first) last all) is bodies in
    codes_complete u at rooms w first (known_at b.level last b.parts) all begins entries begun b.steps b.free b.main

pub bodies_complete : (u : Source) (at : Start) (w : Walk) (whole level : Level) (rooms : List Room) (first all : List Growing) (last : Cursor) → UnitBegins rooms u at
    → IsUnitModules u w → whole ≡ whole_level u at.primary → level ≡ unit_level at.primary (declarations u.tree.items) → AreBegun u w.entered.made first
    → BodiesStand (fixed_with u w whole rooms) u (room_at rooms at.room).depth (known_at level (first_cursor u at) first) last all → AreComplete all
bodies_complete u at w whole level rooms first all last begins entries whole_is is begun bodies =
    whole_complete u at w level rooms first all last begins entries is begun
    (subst (λ (l : Level). BodiesStand (fixed_with u w l rooms) u (room_at rooms at.room).depth (known_at level (first_cursor u at) first) last all) whole_is bodies)

-- its bodies were, and its modules were picked
pub unit_is_made : (f : Fixed) (made : ℕ → List Made) (u : Source) (names : List (List ℕ)) (at : Start) (primary : ℕ) (level : Level) (last : Cursor)
    (first all : List Growing) (old new : List Module) → level ≡ unit_level at.primary (declarations u.tree.items) → primary ≡ at.primary + total_words false item_words (unit_items u)
    → AreBegun u made first → BodiesStand f u (room_at f.rooms at.room).depth (known_at level (first_cursor u at) first) last all
    → PartsPicked u names all old new
    → UnitMade f made u names at (record { primary = primary; own = last.own; own_arrays = last.own_arrays; room = last.inner_room }) old new
unit_is_made f made u names at primary level last first all old new level_is primary_is begun bodies picked = record {
  first = first;
  begun = begun;
  last = last;
  all = all;
  bodies = subst (λ (l : Level). BodiesStand f u (room_at f.rooms at.room).depth (known_at l (first_cursor u at) first) last all) level_is bodies;
  picked = picked;
  next_is = ap (λ (n : ℕ). let s : Start = record { primary = n; own = last.own; own_arrays = last.own_arrays; room = last.inner_room } in s) primary_is;
}

pub bodies_stand : (f : Fixed) (u : Source) (depth : ℕ) (room : Room) (level here : Level) (at start last : Cursor) (first parts all : List Growing)
    → room.depth ≡ depth → start ≡ at → Steps f (declarations u.tree.items) (known_at level start first) (known_at here last parts)
    → AreFree u.subprogram u.tree.segment decl.none parts → MainStep u.subprogram f u.tree.statements room.depth parts all
    → BodiesStand f u depth (known_at level at first) last all
bodies_stand f u depth room level here at start last first parts all depth_is start_is steps free main = record {
  level = here;
  parts = parts;
  steps = subst (λ (c : Cursor). Steps f (declarations u.tree.items) (known_at level c first) (known_at here last parts)) start_is steps;
  free = free;
  main = subst (λ (n : ℕ). MainStep u.subprogram f u.tree.statements n parts all) depth_is main;
}

pub parts_picked : (u : Source) (names : List (List ℕ)) (all : List Growing) (slots : List (Option Module)) (numbers : List ℕ → Option ℕ) (old new : List Module)
    → AreSlots all slots → numbers ≡ find (numbered 0 u.segments) → PickedFrom numbers slots names old new → PartsPicked u names all old new
parts_picked u names all slots numbers old new are is picked = record {
  slots = slots;
  are_slots = are;
  picked = subst (λ (f : List ℕ → Option ℕ). PickedFrom f slots names old new) is picked;
}
