-- The modules of a unit, and of units in order.
use Rattle.std.proofs.Common.{◌≡◌, ℕ, suc, ◌+◌, false, List, [], ◌∷◌, ◌++◌, map, drop, length, Some, refl, sym, ap, subst, ◌∙◌}
use Rattle.std.specs.List.{slice_get}
use Rattle.spl_sound_labels.specs.spl_tree.DeclarationTrees as decl
use Rattle.spl_sound_labels.specs.spl_tree.DeclarationTrees.{declarations}
use Rattle.spl_sound_labels.specs.spl_meaning.Names.{find}
use Rattle.spl_sound_labels.specs.spl_meaning.Tables.{Source, routines_of, unit_table, unit_subroutines}
use Rattle.spl_sound_labels.specs.spl_meaning.Places.{item_words}
use Rattle.spl_sound_labels.specs.spl_meaning.Limits.{joined}
use Rattle.spl_sound_labels.specs.spl_places.Counters.{total_words}
use Rattle.spl_sound_labels.specs.spl_places.Programs.{Each, NewInUnit, NewInRoutine, unit_items}
use Rattle.spl_sound_labels.specs.spl_meaning.Bodies.{all_routines, reached_behind}
use Rattle.spl_routine_code.specs.spl_rooms.declared.room_type.Room.{Room}
use Rattle.spl_routine_code.specs.spl_rooms.Rooms.{room_within, rooms_in}
use Rattle.spl_routine_code.specs.spl_branch.declared.modules.Module.{Module}
use Rattle.spl_routine_code.specs.spl_scopes.Scopes.{Placed, placed_units}
use Rattle.spl_unit_codes.specs.spl_modules.Entered.{Walk}
use Rattle.spl_unit_codes.specs.spl_modules.UnitModules.{IsUnitModules}
use Rattle.spl_routine_code.specs.spl_body_scopes.Walks.{State, Left, first_state}
use Rattle.spl_routine_code.specs.spl_body_scopes.Levels.{unit_level}
use Rattle.spl_routine_code.specs.spl_body_scopes.Units.{UnitsLeft}
use Rattle.spl_unit_laws.proofs.LeftSteps.{left_first, units_behind, first_of}
use Rattle.spl_unit_codes.specs.spl_module_code.Modules.{AreOfUnit, AreOf}
use Rattle.spl_unit_codes.specs.spl_module_code.Modules.{AreOf as o}
use Rattle.spl_routine_code.specs.Routines.{room_at}
use Rattle.spl_unit_codes.specs.declared.growing.Growing.{Growing}
use Rattle.spl_unit_codes.specs.Begun.{AreBegun}
use Rattle.spl_unit_laws.specs.declared.cursors.Start.{Start}
use Rattle.spl_unit_laws.specs.Known.{Known}
use Rattle.spl_unit_laws.specs.Steps.{Steps, AreFree}
use Rattle.spl_unit_laws.specs.Begins.{UnitBegins, UnitsBegin}
use Rattle.spl_unit_laws.specs.Units.{fixed_for, first_cursor, MainStep, UnitStands, UnitsStand}
use Rattle.spl_unit_laws.specs.Units.{UnitsStand as t}
use Rattle.spl_unit_laws.proofs.Declared.{fixed_in, AllBehind}
use Rattle.spl_unit_laws.proofs.RoomWalks.{UnitRooms, unit_rooms}
use Rattle.spl_unit_laws.proofs.UnitSteps.{routines_arrays, Along}
use Rattle.spl_unit_laws.proofs.UnitWalks.{behind_all, last_state, known_at, NoInners, AtEnd, walked}
use Rattle.spl_unit_laws.proofs.UnitEnds.{Whole, main_step, begun_reach}
use Rattle.spl_unit_laws.proofs.Picks.{first_left, picked_modules}

-- ---- a unit

-- what is known behind a unit
pub record Made (p : Placed) (names : List (List ℕ)) (rooms rest : List Room) (next : Start) (ms : List Module) : Type 0 where
  pub modules : AreOfUnit p [] names ms
  pub state : State
  pub left : Left p state decl.none
  pub primary : next.primary ≡ p.at.primary + total_words false item_words (unit_items p.unit)
  pub own : next.own ≡ state.own
  pub own_arrays : next.own_arrays ≡ p.at.own_arrays + routines_arrays (routines_of p.unit)
  pub room : drop next.room rooms ≡ rest

first_known : (p : Placed) (at : Start) (first : List Growing) → p.at.own ≡ at.own → p.at.own_arrays ≡ at.own_arrays
    → record { level = unit_level p.at.primary (declarations p.unit.tree.items); at = first_cursor p.unit at; parts = first }
    ≡ known_at p (first_state p) p.at.own_arrays (first_cursor p.unit at).room (first_cursor p.unit at).inner_room first
first_known p at first own arrays i = record {
  level = unit_level p.at.primary (declarations p.unit.tree.items);
  at = record { routines = 0; own = sym own i; own_arrays = sym arrays i; room = (first_cursor p.unit at).room; inner_room = (first_cursor p.unit at).inner_room };
  parts = first;
}

-- where the declarations and the main body have come to
pub record UnitWhole (p : Placed) (rooms rest : List Room) (number : ℕ) (last : Known) (whole : List Growing) : Type 0 where
  pub end : AtEnd p rooms rest number last
  pub count : length whole ≡ number
  pub each : (g : ℕ) (y : Growing) → slice_get whole g ≡ Some y → Whole p g y.code

pub unit_whole : (p : Placed) (at : Start) (rooms rest : List Room) (w : Walk) (first : List Growing) (m : Known) (whole : List Growing) → NewInUnit p.unit
    → Each NewInRoutine (routines_of p.unit) → p.at.primary ≡ at.primary → p.at.own ≡ at.own → p.at.own_arrays ≡ at.own_arrays → NoInners p → drop at.room rooms ≡ rooms_in p.unit ++ rest
    → IsUnitModules p.unit w → AreBegun p.unit w.entered.made first
    → Steps (fixed_for p.unit w at.primary rooms) (declarations p.unit.tree.items)
    (record { level = unit_level at.primary (declarations p.unit.tree.items); at = first_cursor p.unit at; parts = first }) m
    → AreFree p.unit.subprogram p.unit.tree.segment decl.none m.parts
    → MainStep p.unit.subprogram (fixed_for p.unit w at.primary rooms) p.unit.tree.statements (room_at rooms at.room).depth m.parts whole
    → UnitWhole p rooms rest (length first) m whole
unit_whole p at rooms rest w first m whole globals routines primary own arrays out has are begun grown free main_grown =
    let u : Source = p.unit in
    let ds = declarations u.tree.items in
    let s : State = first_state p in
    let left : Left p s ds = left_first p globals routines in
    let last : State = behind_all s ds in
    let all : AllBehind p last = last_state p s refl left in
    let ur : UnitRooms rooms u at.room rest = unit_rooms rooms u at.room rest has in
    let steps : Steps (fixed_in p w rooms) ds (record { level = unit_level p.at.primary ds; at = first_cursor u at; parts = first }) m =
    subst (λ (q : ℕ). Steps (fixed_for u w q rooms) ds (record { level = unit_level q ds; at = first_cursor u at; parts = first }) m) (sym primary) grown in
    let along : Along p s 0 (first_cursor u at).room (first_cursor u at).inner_room ds rooms rest = record {
      left = left;
      tail = map (room_within (find (unit_table u))) (unit_subroutines u) ++ rest;
      routine_rooms = ur.routines;
      inner_rooms = ur.inners;
      inners = refl;
      arrays = refl;
    } in
    let end : AtEnd p rooms rest (length first) m =
    walked p w rooms rest last s 0 (first_cursor u at).room (first_cursor u at).inner_room ds
    (record { level = unit_level p.at.primary ds; at = first_cursor u at; parts = first }) m are all out along
    (first_known p at first own arrays) (begun_reach p w first are begun) steps in
    let main : MainStep u.subprogram (fixed_in p w rooms) u.tree.statements (room_at rooms at.room).depth m.parts whole =
    subst (λ (q : ℕ). MainStep u.subprogram (fixed_for u w q rooms) u.tree.statements (room_at rooms at.room).depth m.parts whole) (sym primary) main_grown in
    let behind = main_step p w rooms last end.state.count end.j at.room m.parts whole are all
    (λ is. ap (λ (r : Room). r.depth) (ur.main is)) end.reach free main in
    record { end = end; count = behind.0 ∙ end.number_is; each = behind.1 }

pub unit_made : (p : Placed) (at next : Start) (names : List (List ℕ)) (rooms rest : List Room) (ms : List Module) → NewInUnit p.unit
    → Each NewInRoutine (routines_of p.unit) → p.at.primary ≡ at.primary → p.at.own ≡ at.own → p.at.own_arrays ≡ at.own_arrays → NoInners p → drop at.room rooms ≡ rooms_in p.unit ++ rest
    → UnitStands rooms names p.unit at next ms → Made p names rooms rest next ms
unit_made p at next names rooms rest ms globals routines primary own arrays out has one =
    let all : UnitWhole p rooms rest (length one.first) one.last one.whole =
    unit_whole p at rooms rest one.entries one.first one.last one.whole globals routines primary own arrays out has one.entries_are one.begun one.steps one.free one.main in
    let end = all.end in
    record {
      modules = picked_modules p one.whole [] one.slots names ms (all.count ∙ one.begun.number) all.each (first_left one.whole one.slots one.are_slots) one.picked;
      state = end.state;
      left = end.left;
      primary = ap (λ (x : Start). x.primary) one.next_is ∙ ap (λ (q : ℕ). q + total_words false item_words (unit_items p.unit)) (sym primary);
      own = ap (λ (x : Start). x.own) one.next_is ∙ end.own;
      own_arrays = ap (λ (x : Start). x.own_arrays) one.next_is ∙ end.own_arrays;
      room = ap (λ (x : Start). drop x.room rooms) one.next_is ∙ end.inner_rooms;
    }

-- ---- units

-- the next of the units that are left
abbrev pub unit_begins : (rooms : List Room) (u : Source) (us : List Source) (at : Start) → UnitsBegin rooms (u ∷ us) at → UnitBegins rooms u at
unit_begins rooms u us at b = record {
  reached = b.left.at;
  new = b.left.new_units.0;
  new_routines = first_of NewInRoutine (routines_of u) (all_routines us) b.left.new_routines;
  primary = b.left.globals_at;
  own = b.left.owns_at;
  own_arrays = sym b.own_arrays;
  inners = b.inners.0;
  others = joined rooms_in us;
  rooms_are = b.rooms_are;
}

-- what is known behind it
next_made : (rooms : List Room) (names : List (List ℕ)) (u : Source) (us : List Source) (at next : Start) (ms : List Module) → (b : UnitsBegin rooms (u ∷ us) at)
    → UnitStands rooms names u at next ms → Made (record { at = b.left.at; unit = u }) names rooms (joined rooms_in us) next ms
next_made rooms names u us at next ms b one =
    let first : UnitBegins rooms u at = unit_begins rooms u us at b in
    unit_made (record { at = b.left.at; unit = u }) at next names rooms (joined rooms_in us) ms first.new first.new_routines first.primary first.own first.own_arrays
    first.inners b.rooms_are one

-- and which units are left there
abbrev behind_made : (rooms : List Room) (names : List (List ℕ)) (u : Source) (us : List Source) (at next : Start) (ms : List Module) → (b : UnitsBegin rooms (u ∷ us) at)
    → Made (record { at = b.left.at; unit = u }) names rooms (joined rooms_in us) next ms → UnitsBegin rooms us next
behind_made rooms names u us at next ms b made =
    let behind : UnitsLeft b.all (suc b.before) (at.primary + total_words false item_words (unit_items u)) made.state.own us =
    units_behind b.all b.before at.primary at.own u us b.left made.state made.left in
    record {
      all = b.all;
      before = suc b.before;
      left = record {
        at = reached_behind u b.left.at;
        globals_at = behind.globals_at ∙ ap (λ q. q + total_words false item_words (unit_items u)) (sym b.left.globals_at) ∙ sym made.primary;
        owns_at = behind.owns_at ∙ sym made.own;
        units = behind.units;
        new_units = behind.new_units;
        new_routines = behind.new_routines;
      };
      own_arrays = made.own_arrays;
      inners = b.inners.1;
      rooms_are = made.room;
    }

pub units_begin_behind : (rooms : List Room) (names : List (List ℕ)) (u : Source) (us : List Source) (at next : Start) (ms : List Module) → UnitsBegin rooms (u ∷ us) at
    → UnitStands rooms names u at next ms → UnitsBegin rooms us next
units_begin_behind rooms names u us at next ms b one = behind_made rooms names u us at next ms b (next_made rooms names u us at next ms b one)

pub units_made : (us : List Source) (at : Start) (names : List (List ℕ)) (rooms : List Room) (ms : List Module) → (b : UnitsBegin rooms us at)
    → UnitsStand rooms names us at ms → AreOf names (placed_units b.left.at us) ms
units_made [] at names rooms _ b t.none = o.none
units_made (u ∷ us) at names rooms _ b (t.more {next = next} {ms = ms} {ns = ns} one others) =
    let made = next_made rooms names u us at next ms b one in
    o.more made.modules (units_made us next names rooms ns (behind_made rooms names u us at next ms b made) others)
