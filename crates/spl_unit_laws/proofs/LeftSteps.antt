-- What a unit has left of its declarations behind one of them, in a form whose parts are seen.
use Rattle.std.proofs.Common.{ℕ, suc, ◌≡◌, ◌+◌, add-zero, add_assoc, true, false, None, List, [], ◌∷◌, ◌++◌, drop, refl, sym, ap, subst, ◌∙◌}
use Rattle.spl_sound_labels.specs.spl_tree.DeclarationTrees as decl
use Rattle.spl_sound_labels.specs.spl_tree.DeclarationTrees.{Heading, Declaration, Declarations, declarations}
use Rattle.spl_sound_labels.specs.spl_tree.StatementTrees as stat
use Rattle.spl_sound_labels.specs.spl_meaning.Stops.{declaration_stops}
use Rattle.spl_sound_labels.specs.spl_meaning.Names.{Names, Sort, Table, find, nothing_declared}
use Rattle.spl_sound_labels.specs.spl_meaning.Tables.{Source, Routine, routines_of, routines_among, routine_table, with_declaration}
use Rattle.spl_sound_labels.specs.spl_meaning.Places.{item_words, list_words, list_array_words}
use Rattle.spl_sound_labels.specs.spl_meaning.Bodies.{reached_behind, own_table, all_routines, named_bodies, procedure_body}
use Rattle.spl_routine_code.specs.spl_found.OwnNames.{behind_declaration}
use Rattle.spl_routine_code.proofs.spl_found_proofs.OwnNames.{find_declaration}
use Rattle.spl_sound_labels.specs.spl_places.ListedData.{Datum}
use Rattle.spl_sound_labels.specs.spl_places.Counters.{total_words}
use Rattle.spl_sound_labels.specs.spl_places.Programs.{Each, NewInUnit, NewInRoutine, routine_items, unit_items}
use Rattle.spl_sound_labels.proofs.spl_places_proofs.ProgramLaws.{unit_held, routine_held, item_words_held}
use Rattle.spl_routine_code.specs.spl_places.Gathered.{items_under, items_in}
use Rattle.spl_routine_code.specs.spl_scopes.Entries.{routines_behind}
use Rattle.spl_routine_code.specs.spl_scopes.Scopes.{Placed, first_reached, placed_units, global_places, routine_bodies}
use Rattle.spl_routine_code.specs.spl_body_scopes.Walks.{State, behind, routines_own, Left, first_state}
use Rattle.spl_routine_code.specs.spl_body_scopes.Units.{UnitsLeft}
use Rattle.spl_routine_code.proofs.spl_body_scopes_proofs.ScopeLaws.{drop_more, each_second, made}

-- the names behind a declaration
pub names_behind : (names : Names) (t : Table Sort) (d : Declaration) → names ≡ find t
    → behind_declaration nothing_declared names d ≡ find (with_declaration nothing_declared t d)
names_behind names t d is = ap (λ (n : Names). behind_declaration nothing_declared n d) is ∙ sym (find_declaration nothing_declared t d)

-- the words of a procedure's OWN items
pub own_words : (names : Names) (t : Table Sort) (m : ℕ) (h : Heading) (items : Declarations) (ss : List stat.Statement) → names ≡ find t
    → NewInRoutine (made t m h items ss)
    → total_words true item_words (items_under (behind_declaration nothing_declared names (decl.Declaration.procedure h items ss)) h items)
    ≡ list_words true (routine_table (made t m h items ss))
own_words names t m h items ss is new =
    let r = made t m h items ss in
    ap (λ (n : Names). total_words true item_words (items_under n h items)) (names_behind names t (decl.Declaration.procedure h items ss) is)
    ∙ sym (item_words_held true (routine_table r) (routine_items r) (routine_held r new))

pub no_own : (s : State) (d : Declaration) → items_in (behind_declaration nothing_declared s.names d) d ≡ []
    → s.own ≡ s.own + total_words true item_words (items_in (behind_declaration nothing_declared s.names d) d)
no_own s d none = sym (add-zero s.own) ∙ ap (λ (is : List Datum). s.own + total_words true item_words is) (sym none)

-- behind a declaration that is no procedure
abbrev pub left_plain : (p : Placed) (s : State) (d : Declaration) (ds : Declarations) (left : Left p s (decl.and d ds))
    → routines_among left.table left.before (decl.and d ds) ≡ routines_among (with_declaration nothing_declared left.table d) (left.before + declaration_stops d) ds
    → routines_behind s.count d ≡ s.count → items_in (behind_declaration nothing_declared s.names d) d ≡ [] → Left p (behind s d) ds
left_plain p s d ds left same count none = record {
  table = with_declaration nothing_declared left.table d;
  before = left.before + declaration_stops d;
  own_arrays = left.own_arrays;
  names = names_behind s.names left.table d left.names;
  whole = left.whole;
  routines = ap (λ (k : ℕ). drop k (routines_of p.unit)) count ∙ left.routines ∙ same;
  bodies =
      ap (λ (k : ℕ). drop k (routine_bodies p)) count ∙ left.bodies
      ∙ ap (λ (rs : List Routine). named_bodies (global_places p) s.own left.own_arrays rs) same
      ∙ ap (λ (o : ℕ). named_bodies (global_places p) o left.own_arrays (routines_among (with_declaration nothing_declared left.table d) (left.before + declaration_stops d) ds)) (no_own s d none);
  new = subst (λ (rs : List Routine). Each NewInRoutine rs) same left.new;
  total =
      ap (λ (o : ℕ). o + routines_own (routines_among (with_declaration nothing_declared left.table d) (left.before + declaration_stops d) ds)) (sym (no_own s d none))
      ∙ ap (λ (rs : List Routine). s.own + routines_own rs) (sym same) ∙ left.total;
  new_globals = left.new_globals;
}

-- behind a procedure
abbrev pub left_routine : (p : Placed) (s : State) (h : Heading) (items : Declarations) (ss : List stat.Statement) (ds : Declarations)
    → Left p s (decl.and (decl.Declaration.procedure h items ss) ds) → Left p (behind s (decl.Declaration.procedure h items ss)) ds
left_routine p s h items ss ds left = record {
  table = with_declaration nothing_declared left.table (decl.Declaration.procedure h items ss);
  before = left.before + declaration_stops (decl.Declaration.procedure h items ss);
  own_arrays = left.own_arrays + list_array_words true (routine_table (made left.table left.before h items ss));
  names = names_behind s.names left.table (decl.Declaration.procedure h items ss) left.names;
  whole = left.whole;
  routines = drop_more s.count (routines_of p.unit) (made left.table left.before h items ss)
      (routines_among (with_declaration nothing_declared left.table (decl.Declaration.procedure h items ss)) (left.before + declaration_stops (decl.Declaration.procedure h items ss)) ds)
      left.routines;
  bodies =
      drop_more s.count (routine_bodies p)
      (record { name = h.name; body = procedure_body (global_places p) s.own left.own_arrays (made left.table left.before h items ss) })
      (named_bodies (global_places p) (s.own + list_words true (routine_table (made left.table left.before h items ss)))
      (left.own_arrays + list_array_words true (routine_table (made left.table left.before h items ss)))
      (routines_among (with_declaration nothing_declared left.table (decl.Declaration.procedure h items ss)) (left.before + declaration_stops (decl.Declaration.procedure h items ss)) ds))
      left.bodies
      ∙ ap (λ (w : ℕ). named_bodies (global_places p) (s.own + w) (left.own_arrays + list_array_words true (routine_table (made left.table left.before h items ss)))
      (routines_among (with_declaration nothing_declared left.table (decl.Declaration.procedure h items ss)) (left.before + declaration_stops (decl.Declaration.procedure h items ss)) ds))
      (sym (own_words s.names left.table left.before h items ss left.names left.new.0));
  new = left.new.1;
  total =
      ap (λ (w : ℕ). s.own + w
      + routines_own (routines_among (with_declaration nothing_declared left.table (decl.Declaration.procedure h items ss)) (left.before + declaration_stops (decl.Declaration.procedure h items ss)) ds))
      (own_words s.names left.table left.before h items ss left.names left.new.0)
      ∙ add_assoc s.own (list_words true (routine_table (made left.table left.before h items ss)))
      (routines_own (routines_among (with_declaration nothing_declared left.table (decl.Declaration.procedure h items ss)) (left.before + declaration_stops (decl.Declaration.procedure h items ss)) ds))
      ∙ left.total;
  new_globals = left.new_globals;
}

pub no_names : nothing_declared ≡ find []
no_names i x = None

-- before the first
abbrev pub left_first : (p : Placed) → NewInUnit p.unit → Each NewInRoutine (routines_of p.unit) → Left p (first_state p) (declarations p.unit.tree.items)
left_first p globals routines = record {
  table = [];
  before = 0;
  own_arrays = p.at.own_arrays;
  names = no_names;
  whole = refl;
  routines = refl;
  bodies = refl;
  new = routines;
  total = refl;
  new_globals = globals;
}

-- ---- units

pub first_of : {A : Type 0} (P : A → Type 0) (xs ys : List A) → Each P (xs ++ ys) → Each P xs
first_of P [] ys all = tt
first_of P (x ∷ xs) ys all = (all.0, first_of P xs ys all.1)

-- the next unit before its first declaration
abbrev pub unit_first : (us : List Source) (n primary own : ℕ) (u : Source) (rest : List Source) (left : UnitsLeft us n primary own (u ∷ rest))
    → Left (record { at = left.at; unit = u }) (first_state (record { at = left.at; unit = u })) (declarations u.tree.items)
unit_first us n primary own u rest left =
    left_first (record { at = left.at; unit = u }) left.new_units.0 (first_of NewInRoutine (routines_of u) (all_routines rest) left.new_routines)

-- behind it
abbrev pub units_behind : (us : List Source) (n primary own : ℕ) (u : Source) (rest : List Source) (left : UnitsLeft us n primary own (u ∷ rest)) (s : State)
    → Left (record { at = left.at; unit = u }) s decl.none → UnitsLeft us (suc n) (primary + total_words false item_words (unit_items u)) s.own rest
units_behind us n primary own u rest left s done = record {
  at = reached_behind u left.at;
  globals_at =
      ap (λ (k : ℕ). k + list_words false (own_table u)) left.globals_at
      ∙ ap (λ (k : ℕ). primary + k) (item_words_held false (own_table u) (unit_items u) (unit_held u left.new_units.0));
  owns_at = sym done.total ∙ add-zero s.own;
  units = drop_more n (placed_units (first_reached us) us) (record { at = left.at; unit = u }) (placed_units (reached_behind u left.at) rest) left.units;
  new_units = left.new_units.1;
  new_routines = each_second NewInRoutine (routines_of u) (all_routines rest) left.new_routines;
}
