-- A loop over the items of a list: where those from one on stand.
use Rattle.std.proofs.Common.{◌≡◌, ◌<◌, ◌≤◌, ℕ, ◌+◌, Bool, true, false, nat_lt, List, ◌∷◌, [], ◌++◌, map, drop, length, get_or, Option, refl, ◌∙◌, sym, add-zero, add_assoc}
use Rattle.std.specs.Prelude.{if◌then◌else◌}
use Rattle.spl_tree.specs.Views.{letters}
use Rattle.spl_sorts.specs.spl_meaning.Names as n
use Rattle.spl_sorts.specs.spl_meaning.Names.{Sort, Table, find}
use Rattle.spl_sorts.specs.spl_meaning.Places.{Place, Array, is_own, item_words, array_words, where_own, only, place_of, array_at, places_from, arrays_from}
use Rattle.spl_sorts.specs.Sorts.{sort_of}
use Rattle.spl_lists.proofs.NameWalks.{onward, onward_end}
use Rattle.spl_spots.specs.spl_found.OwnNames.{with_name}
use Rattle.spl_places.specs.declared.data.Datum.{Datum}
use Rattle.spl_places.specs.declared.places.Starts.{Starts}
use Rattle.spl_places.specs.ListedData as d
use Rattle.spl_places.specs.ListedData.{datum_of}
use Rattle.spl_places.specs.Counters.{total_words}
use Rattle.spl_spots.specs.NameMaps.{behind_table}
use Rattle.spl_places.specs.Held.{named}
use Rattle.spl_places.specs.Spots.{and_place, and_array, behind_item, behind_data}
use Rattle.spl_spots.proofs.NameMapLemmas.{behind_more, behind_none, behind_nothing, shown_none}

-- ---- one item

place_more : (at : ℕ → Place) (owned here : ℕ) (has : List ℕ → Option Place) (x : List ℕ) (s : Sort) (t : Table Place)
    → behind_table has (only (nat_lt 0 (item_words s)) (x, place_of at (is_own s) owned here) ++ t) ≡ behind_table (and_place at owned here has x s) t
place_more at owned here has x s t = by (nat_lt 0 (item_words s)) (place_of at (is_own s) owned here)
  where
    by : (b : Bool) (q : Place) → behind_table has (only b (x, q) ++ t) ≡ behind_table (if b then with_name has x q else has) t
    by true q = behind_more has x q t
    by false q = refl

array_more : (from : Place) (has : List ℕ → Option Array) (x : List ℕ) (s : Sort) (t : Table Array)
    → behind_table has (map (λ a. (x, a)) (array_at from s) ++ t) ≡ behind_table (and_array from has x s) t
array_more from has x (n.array k own low high) t = behind_more has x (record { from = from; kind = k; low = low }) t
array_more from has x (n.simple k own) t = refl
array_more from has x (n.view k own base) t = refl
array_more from has x (n.pointer k own) t = refl
array_more from has x (n.value k) t = refl
array_more from has x (n.by_reference k) t = refl
array_more from has x (n.array_parameter k) t = refl
array_more from has x (n.equate v) t = refl
array_more from has x n.label t = refl
array_more from has x (n.intrinsic i) t = refl
array_more from has x (n.procedure f) t = refl
array_more from has x (n.subroutine f) t = refl
array_more from has x n.unknown t = refl

-- ---- items in order

pub place_step : (at : ℕ → Place) (owned here : ℕ) (has : List ℕ → Option Place) (list : List Datum) (i : ℕ) (x : Datum) → i < length list → x ≡ get_or list i x
    → behind_table has (places_from at owned here (map named (map datum_of (drop i list))))
    ≡ behind_table (and_place at owned here has (letters x.name) (sort_of x.sort))
    (places_from at (owned + where_own true item_words (sort_of x.sort)) (here + where_own false item_words (sort_of x.sort)) (map named (map datum_of (drop (i + 1) list))))
place_step at owned here has list i x lt is =
    onward datum_of (λ ds. behind_table has (places_from at owned here (map named ds))) list i x lt is
    ∙ place_more at owned here has (letters x.name) (sort_of x.sort)
    (places_from at (owned + where_own true item_words (sort_of x.sort)) (here + where_own false item_words (sort_of x.sort)) (map named (map datum_of (drop (i + 1) list))))

pub place_end : (at : ℕ → Place) (owned here : ℕ) (has : List ℕ → Option Place) (list : List Datum) (i : ℕ) → length list ≤ i
    → behind_table has (places_from at owned here (map named (map datum_of (drop i list)))) ≡ has
place_end at owned here has list i le =
    onward_end datum_of (λ ds. behind_table has (places_from at owned here (map named ds))) list i le ∙ behind_none has

pub array_step : (at : ℕ → Place) (owned here : ℕ) (has : List ℕ → Option Array) (list : List Datum) (i : ℕ) (x : Datum) → i < length list → x ≡ get_or list i x
    → behind_table has (arrays_from at owned here (map named (map datum_of (drop i list))))
    ≡ behind_table (and_array (place_of at (is_own (sort_of x.sort)) owned here) has (letters x.name) (sort_of x.sort))
    (arrays_from at (owned + where_own true array_words (sort_of x.sort)) (here + where_own false array_words (sort_of x.sort)) (map named (map datum_of (drop (i + 1) list))))
array_step at owned here has list i x lt is =
    onward datum_of (λ ds. behind_table has (arrays_from at owned here (map named ds))) list i x lt is
    ∙ array_more (place_of at (is_own (sort_of x.sort)) owned here) has (letters x.name) (sort_of x.sort)
    (arrays_from at (owned + where_own true array_words (sort_of x.sort)) (here + where_own false array_words (sort_of x.sort)) (map named (map datum_of (drop (i + 1) list))))

pub array_end : (at : ℕ → Place) (owned here : ℕ) (has : List ℕ → Option Array) (list : List Datum) (i : ℕ) → length list ≤ i
    → behind_table has (arrays_from at owned here (map named (map datum_of (drop i list)))) ≡ has
array_end at owned here has list i le =
    onward_end datum_of (λ ds. behind_table has (arrays_from at owned here (map named ds))) list i le ∙ behind_none has

pub next_step : (at : Starts) (list : List Datum) (i : ℕ) (x : Datum) → i < length list → x ≡ get_or list i x
    → behind_data at (map datum_of (drop i list)) ≡ behind_data (behind_item at (sort_of x.sort)) (map datum_of (drop (i + 1) list))
next_step at list i x lt is = onward datum_of (behind_data at) list i x lt is

pub next_end : (at : Starts) (list : List Datum) (i : ℕ) → length list ≤ i → behind_data at (map datum_of (drop i list)) ≡ at
next_end at list i le = onward_end datum_of (behind_data at) list i le

pub ruleset place_steps = (place_step, place_end, array_step, array_end, next_step, next_end, behind_nothing, shown_none)

-- ---- where the next item stands, by the words of those before it

pub next_own : (at : Starts) (ds : List d.Datum) → (behind_data at ds).own ≡ at.own + total_words true item_words ds
next_own at [] = sym (add-zero at.own)
next_own at (x ∷ ds) = next_own (behind_item at x.sort) ds ∙ add_assoc at.own (where_own true item_words x.sort) (total_words true item_words ds)

pub next_own_arrays : (at : Starts) (ds : List d.Datum) → (behind_data at ds).own_arrays ≡ at.own_arrays + total_words true array_words ds
next_own_arrays at [] = sym (add-zero at.own_arrays)
next_own_arrays at (x ∷ ds) =
    next_own_arrays (behind_item at x.sort) ds ∙ add_assoc at.own_arrays (where_own true array_words x.sort) (total_words true array_words ds)

pub next_here : (at : Starts) (ds : List d.Datum) → (behind_data at ds).here ≡ at.here + total_words false item_words ds
next_here at [] = sym (add-zero at.here)
next_here at (x ∷ ds) = next_here (behind_item at x.sort) ds ∙ add_assoc at.here (where_own false item_words x.sort) (total_words false item_words ds)

pub next_here_arrays : (at : Starts) (ds : List d.Datum) → (behind_data at ds).here_arrays ≡ at.here_arrays + total_words false array_words ds
next_here_arrays at [] = sym (add-zero at.here_arrays)
next_here_arrays at (x ∷ ds) =
    next_here_arrays (behind_item at x.sort) ds ∙ add_assoc at.here_arrays (where_own false array_words x.sort) (total_words false array_words ds)
