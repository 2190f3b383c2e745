-- What a procedure and a subroutine of the main body do, in the words of the definitions.
use Rattle.std.proofs.Common.{None, Bool, false, ◌≡◌, ℕ, ◌+◌, true, List, map, refl, sym, ap, subst, ◌∙◌}
use Rattle.spl_tree.specs.declared.declarations.Decl.{Decl}
use Rattle.spl_tree.specs.DeclarationTrees.{Heading, Declarations, declarations}
use Rattle.spl_tree.specs.StatementTrees.{Statement}
use Rattle.spl_tree.specs.Spells.{declaration}
use Rattle.spl_sound.specs.spl_meaning.Names.{Names}
use Rattle.spl_sound.specs.spl_meaning.Places.{item_words, array_words}
use Rattle.spl_unit_laws.specs.spl_places.Counters.{total_words}
use Rattle.spl_layout.specs.spl_areas.Gathered.{items_under}
use Rattle.spl_unit_laws.specs.spl_modules.Entered.{Indexes}
use Rattle.spl_unit_laws.specs.spl_body_scopes.Levels.{Level, routine_level}
use Rattle.spl_unit_laws.specs.spl_body_scopes.Results.{routine_result}
use Rattle.spl_unit_laws.specs.spl_routine_code.Routines.{Around, inners_among, room_at, InnerStands, RoutineStands, MainBodyStands}
use Rattle.spl_unit_laws.specs.spl_unit_codes.declared.growing.Growing.{Growing}
use Rattle.spl_unit_laws.specs.declared.cursors.Cursor.{Cursor}
use Rattle.spl_unit_laws.specs.Known.{Fixed}
use Rattle.spl_unit_laws.specs.Steps.{RoutineGrows, InnerGrows, cursor_behind, routine_around}
use Rattle.spl_unit_laws.specs.Units.{MainGrows, MainStep}
use Rattle.spl_layout.specs.spl_rooms.declared.room_type.Room.{Room}
use Rattle.spl_tree.specs.declared.statements.Stmt.{Stmt}
use Rattle.spl_tree.specs.Views.{statement}
use Rattle.spl_unit_laws.specs.spl_body_scopes.Results.{result_of}

-- what stands around a procedure's subroutines, where its own level and the entries are these
around_with : Level → Heading → Level → Indexes → Indexes → Around
around_with outer h own p i = record { own = own; outer = outer; result = routine_result own.names h; calls = record { procedures = p; subroutines = i } }

around_is : (f : Fixed) (outer own : Level) (at : Cursor) (h : Heading) (list : List Decl) (ds : Declarations) (p i : Indexes)
    → own ≡ routine_level outer.names at.own h (declarations (map declaration list)) → declarations (map declaration list) ≡ ds → p ≡ f.procedures h.segment
    → i ≡ f.inner at.routines → around_with outer h own p i ≡ routine_around f outer at h ds
unfolding around_with
around_is f outer own at h list ds p i level listed procedures inner =
    ap (λ (l : Level). around_with outer h l p i) (level ∙ ap (λ (xs : Declarations). routine_level outer.names at.own h xs) listed)
    ∙ ap (λ (n : Indexes). around_with outer h (routine_level outer.names at.own h ds) n i) procedures
    ∙ ap (λ (n : Indexes). around_with outer h (routine_level outer.names at.own h ds) (f.procedures h.segment) n) inner

pub routine_grows : (f : Fixed) (outer own : Level) (at : Cursor) (h : Heading) (list : List Decl) (ds : Declarations) (ss : List Statement) (p i : Indexes) (x y : Growing)
    → own ≡ routine_level outer.names at.own h (declarations (map declaration list)) → declarations (map declaration list) ≡ ds → p ≡ f.procedures h.segment
    → i ≡ f.inner at.routines
    → RoutineStands (record { own = own; outer = outer; result = routine_result own.names h; calls = record { procedures = p; subroutines = i } }) f.rooms at.room outer.names
    at.own at.own_arrays h ds ss x.done x.code y.code
    → y.done ≡ x.done + (1 + inners_among ds) → RoutineGrows f outer at h ds ss x y
unfolding around_with
routine_grows f outer own at h list ds ss p i x y level listed procedures inner stands done = record {
  code = subst (λ (a : Around). RoutineStands a f.rooms at.room outer.names at.own at.own_arrays h ds ss x.done x.code y.code)
      (around_is f outer own at h list ds p i level listed procedures inner) stands;
  done = done;
}

pub cursor_is : (names : Names) (at : Cursor) (h : Heading) (list : List Decl) (ds : Declarations) (routines own arrays room : ℕ) → declarations (map declaration list) ≡ ds
    → routines ≡ at.routines + 1 → own ≡ at.own + total_words true item_words (items_under names h (declarations (map declaration list)))
    → arrays ≡ at.own_arrays + total_words true array_words (items_under names h ds) → room ≡ at.room + (1 + inners_among ds)
    → record { routines = routines; own = own; own_arrays = arrays; room = room; inner_room = at.inner_room } ≡ cursor_behind names at h ds
cursor_is names at h list ds routines own arrays room listed is owns all rooms =
    ap (λ (n : ℕ). let c : Cursor = record { routines = n; own = own; own_arrays = arrays; room = room; inner_room = at.inner_room } in c) is
    ∙ ap (λ (n : ℕ). let c : Cursor = record { routines = at.routines + 1; own = n; own_arrays = arrays; room = room; inner_room = at.inner_room } in c)
    (owns ∙ ap (λ (xs : Declarations). at.own + total_words true item_words (items_under names h xs)) listed)
    ∙ ap (λ (n : ℕ). let c : Cursor = record {
      routines = at.routines + 1;
      own = at.own + total_words true item_words (items_under names h ds);
      own_arrays = n;
      room = room;
      inner_room = at.inner_room;
    } in c) all
    ∙ ap (λ (n : ℕ). let c : Cursor = record {
      routines = at.routines + 1;
      own = at.own + total_words true item_words (items_under names h ds);
      own_arrays = at.own_arrays + total_words true array_words (items_under names h ds);
      room = n;
      inner_room = at.inner_room;
    } in c) rooms

pub inner_grows : (f : Fixed) (at : Cursor) (h : Heading) (s : Statement) (p : Indexes) (room : Room) (x y : Growing) → p ≡ f.procedures f.segment
    → room ≡ room_at f.rooms at.inner_room
    → InnerStands (record { own = f.whole; outer = f.whole; result = result_of None; calls = record { procedures = p; subroutines = f.main_inner } }) h s room.depth
    x.done x.code y.code
    → y.done ≡ x.done + 1 → InnerGrows f at h s x y
inner_grows f at h s p room x y procedures has stands done = record {
  code = subst (λ (r : Room). InnerStands (record { own = f.whole; outer = f.whole; result = result_of None; calls = record { procedures = f.procedures f.segment; subroutines = f.main_inner } })
      h s r.depth x.done x.code y.code) has
      (subst (λ (n : Indexes). InnerStands (record { own = f.whole; outer = f.whole; result = result_of None; calls = record { procedures = n; subroutines = f.main_inner } })
      h s room.depth x.done x.code y.code) procedures stands);
  done = done;
}

pub main_grows : (f : Fixed) (list : List Stmt) (ss : List Statement) (p : Indexes) (depth : ℕ) (x y : Growing) → map statement list ≡ ss → p ≡ f.procedures f.segment
    → MainBodyStands f.whole (record { procedures = p; subroutines = f.main_inner }) (map statement list) depth x.done x.code y.code → y.done ≡ x.done
    → MainGrows f ss depth x y
main_grows f list ss p depth x y listed procedures stands done = record {
  code = subst (λ (n : Indexes). MainBodyStands f.whole (record { procedures = n; subroutines = f.main_inner }) ss depth x.done x.code y.code) procedures
      (subst (λ (xs : List Statement). MainBodyStands f.whole (record { procedures = p; subroutines = f.main_inner }) xs depth x.done x.code y.code) listed stands);
  done = done;
}

-- a subprogram has no main body
pub main_none : (b : Bool) (f : Fixed) (ss : List Statement) (depth : ℕ) (parts : List Growing) → b ≡ true → MainStep b f ss depth parts parts
main_none b f ss depth parts is = subst (λ (c : Bool). MainStep c f ss depth parts parts) (sym is) refl

pub main_some : (b : Bool) (f : Fixed) (ss : List Statement) (depth : ℕ) (old new : List Growing) → b ≡ false → MainStep false f ss depth old new
    → MainStep b f ss depth old new
main_some b f ss depth old new is step = subst (λ (c : Bool). MainStep c f ss depth old new) (sym is) step
