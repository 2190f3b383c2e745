-- The words, places and limits of a list of declarations are those of its items.
use Rattle.std.proofs.Common.{ℕ, ◌≡◌, ◌+◌, Bool, true, false, nat_lt, List, [], ◌∷◌, ◌++◌, map, Option, Some, None, refl, sym, ap, ◌∙◌, add_assoc, zero-add, add-zero}
use Rattle.std.specs.Prelude.{if◌then◌else◌}
use Rattle.spl_tree.specs.declared.names_and_places.At.{At}
use Rattle.spl_tree.specs.declared.expressions.Kind.{Kind}
use Rattle.spl_tree.specs.DeclarationTrees.{declarations}
use Rattle.spl_sorts.specs.spl_meaning.Names as n
use Rattle.spl_sorts.specs.spl_meaning.Names.{Sort, Table, Formal, find, nothing_declared, sort_by, parameters, formals_of}
use Rattle.spl_sorts.specs.spl_meaning.Tables.{Source, Routine, unit_table, outer_names, routine_table}
use Rattle.spl_sorts.specs.spl_meaning.Places.{Place, Array, is_own, item_words, array_words, where_own, sum, list_words, list_array_words, only, place_of, array_at, places_from, arrays_from}
use Rattle.spl_sorts.specs.spl_meaning.Bodies.{own_table, all_routines, global_words, own_words, primary_words}
use Rattle.spl_sorts.specs.spl_meaning.Limits.{Sized, passing, sized, joined, unit_data, routine_data, all_data, global_limits, local_limits, most_primary, most_locals, most_data}
use Rattle.spl_places.specs.ListedData.{Datum, list_data}
use Rattle.spl_places.specs.Counters.{entry, sizes, total_words}
use Rattle.spl_places.specs.Held.{is_data, held, named}
use Rattle.spl_places.specs.Passed.{global_passed, local_passed}
use Rattle.spl_places.specs.Programs.{unit_items, routine_items, all_globals, all_locals, Each, NewInUnit, NewInRoutine, NewInAll}
use Rattle.spl_places.proofs.HeldLaws.{all_placed, held_declarations, map_both}

-- ---- what is no item of data has no words

no_words : (own : Bool) (words : Sort → ℕ) (s : Sort) → words s ≡ 0 → where_own own words s ≡ 0
no_words true words s none = by (is_own s)
  where
    by : (b : Bool) → (if b then words s else 0) ≡ 0
    by true = none
    by false = refl
no_words false words s none = by (is_own s)
  where
    by : (b : Bool) → (if b then 0 else words s) ≡ 0
    by true = refl
    by false = none

no_item : (s : Sort) → is_data s ≡ false → item_words s ≡ 0
no_item (n.simple k own) is = cc
no_item (n.array k own low high) is = cc
no_item (n.view k own base) is = cc
no_item (n.pointer k own) is = cc
no_item (n.value k) is = refl
no_item (n.by_reference k) is = refl
no_item (n.array_parameter k) is = refl
no_item (n.equate v) is = refl
no_item n.label is = refl
no_item (n.intrinsic i) is = refl
no_item (n.procedure p) is = refl
no_item (n.subroutine p) is = refl
no_item n.unknown is = refl

no_array : (s : Sort) → is_data s ≡ false → array_words s ≡ 0
no_array (n.simple k own) is = cc
no_array (n.array k own low high) is = cc
no_array (n.view k own base) is = cc
no_array (n.pointer k own) is = cc
no_array (n.value k) is = refl
no_array (n.by_reference k) is = refl
no_array (n.array_parameter k) is = refl
no_array (n.equate v) is = refl
no_array n.label is = refl
no_array (n.intrinsic i) is = refl
no_array (n.procedure p) is = refl
no_array (n.subroutine p) is = refl
no_array n.unknown is = refl

-- and no data of an array
no_data : (from : Place) (s : Sort) → is_data s ≡ false → array_at from s ≡ []
no_data from (n.simple k own) is = cc
no_data from (n.array k own low high) is = cc
no_data from (n.view k own base) is = cc
no_data from (n.pointer k own) is = cc
no_data from (n.value k) is = refl
no_data from (n.by_reference k) is = refl
no_data from (n.array_parameter k) is = refl
no_data from (n.equate v) is = refl
no_data from n.label is = refl
no_data from (n.intrinsic i) is = refl
no_data from (n.procedure p) is = refl
no_data from (n.subroutine p) is = refl
no_data from n.unknown is = refl

-- ---- sums over a list are sums over its items

sum_held : (f : Sort → ℕ) → ((s : Sort) → is_data s ≡ false → f s ≡ 0) → (t : Table Sort) → sum (λ e. f e.1) t ≡ sum (λ e. f e.1) (held t)
sum_held f none [] = refl
sum_held f none (e ∷ t) = by (is_data e.1) refl (sum_held f none t)
  where
    by : (b : Bool) → is_data e.1 ≡ b → sum (λ e. f e.1) t ≡ sum (λ e. f e.1) (held t) → f e.1 + sum (λ e. f e.1) t ≡ sum (λ e. f e.1) (only b e ++ held t)
    by true is rest = ap (λ (m : ℕ). f e.1 + m) rest
    by false is rest = ap (λ (m : ℕ). m + sum (λ e. f e.1) t) (none e.1 is) ∙ zero-add (sum (λ e. f e.1) t) ∙ rest

sum_named : (f : Sort → ℕ) (ds : List Datum) → sum (λ e. f e.1) (map named ds) ≡ sum (λ d. f d.sort) ds
sum_named f [] = refl
sum_named f (d ∷ ds) = ap (λ (m : ℕ). f d.sort + m) (sum_named f ds)

-- parameters are no data
held_parameters : (fs : List Formal) → held (parameters fs) ≡ []
held_parameters [] = refl
held_parameters (f ∷ fs) = by f.kind f.array f.value (held_parameters fs)
  where
    by : (k : Option Kind) (array value : Bool) → held (parameters fs) ≡ [] → only (is_data (sort_by k array value)) (f.name, sort_by k array value) ++ held (parameters fs) ≡ []
    by None array value rest = rest
    by (Some k) true value rest = rest
    by (Some k) false true rest = rest
    by (Some k) false false rest = rest

-- a procedure's list holds its items
pub routine_held : (r : Routine) → NewInRoutine r → held (routine_table r) ≡ map named (routine_items r)
routine_held r new =
    held_declarations (outer_names r) (parameters (formals_of r.heading)) r.items new
    ∙ ap (λ (t : Table Sort). t ++ map named (routine_items r)) (held_parameters (formals_of r.heading))

-- and so does the list of a unit that is no subprogram
pub unit_held : (u : Source) → NewInUnit u → held (own_table u) ≡ map named (unit_items u)
unit_held u new = by u.subprogram
  where
    by : (b : Bool) → held (if b then [] else unit_table u) ≡ map named (if b then [] else list_data nothing_declared (find []) (declarations u.tree.items))
    by true = refl
    by false = held_declarations nothing_declared [] (declarations u.tree.items) new

words_held : (own : Bool) (words : Sort → ℕ) → ((s : Sort) → is_data s ≡ false → words s ≡ 0) → (t : Table Sort) (ds : List Datum) → held t ≡ map named ds
    → sum (λ e. where_own own words e.1) t ≡ total_words own words ds
words_held own words none t ds is =
    sum_held (where_own own words) (λ s other. no_words own words s (none s other)) t
    ∙ ap (λ (u : Table Sort). sum (λ e. where_own own words e.1) u) is
    ∙ sum_named (where_own own words) ds

pub item_words_held : (own : Bool) (t : Table Sort) (ds : List Datum) → held t ≡ map named ds → list_words own t ≡ total_words own item_words ds
item_words_held own t ds is = words_held own item_words no_item t ds is

pub array_words_held : (own : Bool) (t : Table Sort) (ds : List Datum) → held t ≡ map named ds → list_array_words own t ≡ total_words own array_words ds
array_words_held own t ds is = words_held own array_words no_array t ds is

-- ---- places are those of the items

pub places_held : (at : ℕ → Place) (owned here : ℕ) (t : Table Sort) → places_from at owned here t ≡ places_from at owned here (held t)
places_held at owned here [] = refl
places_held at owned here (e ∷ t) = by (is_data e.1) refl (λ o h. places_held at o h t)
  where
    by : (b : Bool) → is_data e.1 ≡ b → ((o h : ℕ) → places_from at o h t ≡ places_from at o h (held t)) → places_from at owned here (e ∷ t) ≡ places_from at owned here (only b e ++ held t)
    by true is rest = ap (λ (ps : Table Place). only (nat_lt 0 (item_words e.1)) (e.0, place_of at (is_own e.1) owned here) ++ ps) (rest (owned + where_own true item_words e.1) (here + where_own false item_words e.1))
    by false is rest =
        ap (λ (w : ℕ). only (nat_lt 0 w) (e.0, place_of at (is_own e.1) owned here) ++ places_from at (owned + where_own true item_words e.1) (here + where_own false item_words e.1) t) (no_item e.1 is)
        ∙ ap (λ (w : ℕ). places_from at (owned + w) (here + where_own false item_words e.1) t) (no_words true item_words e.1 (no_item e.1 is))
        ∙ ap (λ (w : ℕ). places_from at (owned + 0) (here + w) t) (no_words false item_words e.1 (no_item e.1 is))
        ∙ ap (λ (w : ℕ). places_from at w (here + 0) t) (add-zero owned)
        ∙ ap (λ (w : ℕ). places_from at owned w t) (add-zero here)
        ∙ rest owned here

pub arrays_held : (at : ℕ → Place) (owned here : ℕ) (t : Table Sort) → arrays_from at owned here t ≡ arrays_from at owned here (held t)
arrays_held at owned here [] = refl
arrays_held at owned here (e ∷ t) = by (is_data e.1) refl (λ o h. arrays_held at o h t)
  where
    by : (b : Bool) → is_data e.1 ≡ b → ((o h : ℕ) → arrays_from at o h t ≡ arrays_from at o h (held t)) → arrays_from at owned here (e ∷ t) ≡ arrays_from at owned here (only b e ++ held t)
    by true is rest = ap (λ (as' : Table Array). map (λ a. (e.0, a)) (array_at (place_of at (is_own e.1) owned here) e.1) ++ as')
        (rest (owned + where_own true array_words e.1) (here + where_own false array_words e.1))
    by false is rest =
        ap (λ (as' : List Array). map (λ a. (e.0, a)) as' ++ arrays_from at (owned + where_own true array_words e.1) (here + where_own false array_words e.1) t)
        (no_data (place_of at (is_own e.1) owned here) e.1 is)
        ∙ ap (λ (w : ℕ). arrays_from at (owned + w) (here + where_own false array_words e.1) t) (no_words true array_words e.1 (no_array e.1 is))
        ∙ ap (λ (w : ℕ). arrays_from at (owned + 0) (here + w) t) (no_words false array_words e.1 (no_array e.1 is))
        ∙ ap (λ (w : ℕ). arrays_from at w (here + 0) t) (add-zero owned)
        ∙ ap (λ (w : ℕ). arrays_from at owned w t) (add-zero here)
        ∙ rest owned here

-- ---- limits are those of the items

-- of a procedure
pub local_is : (r : Routine) → NewInRoutine r → local_limits r ≡ local_passed (routine_items r)
local_is r new =
    let placed = sym (all_placed (outer_names r) (parameters (formals_of r.heading)) r.items) in
    ap (λ (xs : List (At × Sort)). passing 2 most_locals 0 (sized false item_words xs) ++ passing 4 most_data (list_words false (routine_table r)) (sized false array_words xs)) placed
    ∙ ap (λ (m : ℕ). passing 2 most_locals 0 (sizes false item_words (routine_items r)) ++ passing 4 most_data m (sizes false array_words (routine_items r)))
    (item_words_held false (routine_table r) (routine_items r) (routine_held r new))

sized_both : (own : Bool) (words : Sort → ℕ) (xs ys : List (At × Sort)) → sized own words (xs ++ ys) ≡ sized own words xs ++ sized own words ys
sized_both own words [] ys = refl
sized_both own words (x ∷ xs) ys = ap (λ (zs : List Sized). record { at = x.0; words = where_own own words x.1 } ∷ zs) (sized_both own words xs ys)

sizes_both : (own : Bool) (words : Sort → ℕ) (xs ys : List Datum) → sizes own words (xs ++ ys) ≡ sizes own words xs ++ sizes own words ys
sizes_both own words xs ys = ap (sized own words) (map_both entry xs ys) ∙ sized_both own words (map entry xs) (map entry ys)

unit_placed : (u : Source) → map entry (unit_items u) ≡ unit_data u
unit_placed u = by u.subprogram
  where
    by : (b : Bool) → map entry (if b then [] else list_data nothing_declared (find []) (declarations u.tree.items))
        ≡ (if b then [] else all_data nothing_declared [] (declarations u.tree.items))
    by true = refl
    by false = all_placed nothing_declared [] (declarations u.tree.items)

unit_sizes : (words : Sort → ℕ) (us : List Source) → joined (λ u. sized false words (unit_data u)) us ≡ sizes false words (all_globals us)
unit_sizes words [] = refl
unit_sizes words (u ∷ us) =
    ap (λ (xs : List (At × Sort)). sized false words xs ++ joined (λ u. sized false words (unit_data u)) us) (sym (unit_placed u))
    ∙ ap (λ (ys : List Sized). sizes false words (unit_items u) ++ ys) (unit_sizes words us)
    ∙ sym (sizes_both false words (unit_items u) (all_globals us))

routine_sizes : (words : Sort → ℕ) (rs : List Routine) → joined (λ r. sized true words (routine_data r)) rs ≡ sizes true words (joined routine_items rs)
routine_sizes words [] = refl
routine_sizes words (r ∷ rs) =
    ap (λ (xs : List (At × Sort)). sized true words xs ++ joined (λ r. sized true words (routine_data r)) rs)
    (sym (all_placed (outer_names r) (parameters (formals_of r.heading)) r.items))
    ∙ ap (λ (ys : List Sized). sizes true words (routine_items r) ++ ys) (routine_sizes words rs)
    ∙ sym (sizes_both true words (routine_items r) (joined routine_items rs))

total_both : (own : Bool) (words : Sort → ℕ) (xs ys : List Datum) → total_words own words (xs ++ ys) ≡ total_words own words xs + total_words own words ys
total_both own words [] ys = sym (zero-add (total_words own words ys))
total_both own words (x ∷ xs) ys =
    ap (λ (m : ℕ). where_own own words x.sort + m) (total_both own words xs ys)
    ∙ sym (add_assoc (where_own own words x.sort) (total_words own words xs) (total_words own words ys))

pub unit_totals : (us : List Source) → Each NewInUnit us → global_words us ≡ total_words false item_words (all_globals us)
unit_totals [] new = refl
unit_totals (u ∷ us) new =
    ap (λ (m : ℕ). m + global_words us) (item_words_held false (own_table u) (unit_items u) (unit_held u new.0))
    ∙ ap (λ (m : ℕ). total_words false item_words (unit_items u) + m) (unit_totals us new.1)
    ∙ sym (total_both false item_words (unit_items u) (all_globals us))

pub routine_totals : (rs : List Routine) → Each NewInRoutine rs → sum (λ r. list_words true (routine_table r)) rs ≡ total_words true item_words (joined routine_items rs)
routine_totals [] new = refl
routine_totals (r ∷ rs) new =
    ap (λ (m : ℕ). m + sum (λ r. list_words true (routine_table r)) rs) (item_words_held true (routine_table r) (routine_items r) (routine_held r new.0))
    ∙ ap (λ (m : ℕ). total_words true item_words (routine_items r) + m) (routine_totals rs new.1)
    ∙ sym (total_both true item_words (routine_items r) (joined routine_items rs))

-- of all units
pub global_is : (us : List Source) → NewInAll us → global_limits us ≡ global_passed (all_globals us) (all_locals us)
global_is us new =
    let words = ap (λ (m : ℕ). m + own_words us) (unit_totals us new.0) ∙ ap (λ (m : ℕ). total_words false item_words (all_globals us) + m) (routine_totals (all_routines us) new.1) in
    let items = ap (λ (xs : List Sized). xs ++ joined (λ r. sized true item_words (routine_data r)) (all_routines us)) (unit_sizes item_words us)
    ∙ ap (λ (ys : List Sized). sizes false item_words (all_globals us) ++ ys) (routine_sizes item_words (all_routines us)) in
    let arrays = ap (λ (xs : List Sized). xs ++ joined (λ r. sized true array_words (routine_data r)) (all_routines us)) (unit_sizes array_words us)
    ∙ ap (λ (ys : List Sized). sizes false array_words (all_globals us) ++ ys) (routine_sizes array_words (all_routines us)) in
    ap (λ (xs : List Sized). passing 1 most_primary 0 xs ++ passing 4 most_data (primary_words us)
    (joined (λ u. sized false array_words (unit_data u)) us ++ joined (λ r. sized true array_words (routine_data r)) (all_routines us))) items
    ∙ ap (λ (xs : List Sized). passing 1 most_primary 0 (sizes false item_words (all_globals us) ++ sizes true item_words (all_locals us)) ++ passing 4 most_data (primary_words us) xs) arrays
    ∙ ap (λ (m : ℕ). passing 1 most_primary 0 (sizes false item_words (all_globals us) ++ sizes true item_words (all_locals us))
    ++ passing 4 most_data m (sizes false array_words (all_globals us) ++ sizes true array_words (all_locals us))) words
