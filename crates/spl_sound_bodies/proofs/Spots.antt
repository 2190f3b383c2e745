-- Where the items of a list stand, by their names.
-- 1. each item is what its name stands for                  (own_names)
-- 2. so its word is that of its own                          (spot_is, item_local)
-- 3. where arrays' data begin                                (array_origin, array_sort)
use Rattle.std.proofs.Common.{◌≡◌, ℕ, ◌+◌, ◌≤◌, ◌<◌, ◌&&◌, nat_lt, Bool, true, false, if◌then◌else◌, List, [], ◌∷◌, ◌++◌, Option, Some, None, is_some, refl, sym, ap, subst, ◌∙◌, arith}
use Rattle.std.specs.Prelude.{nat_le, map}
use Rattle.std.proofs.lemmas.Bool.{and_from, ltb-true, lt-ltb, le-leb}
use Rattle.spl_readings.specs.spl_tree.DeclarationTrees as decl
use Rattle.spl_readings.specs.spl_tree.DeclarationTrees.{Placed, Item, Equal, Declaration, Declarations}
use Rattle.spl_readings.specs.spl_tree.declared.expressions.Kind.{Kind}
use Rattle.spl_ruled_bodies.specs.spl_meaning.Names as n
use Rattle.spl_ruled_bodies.specs.spl_meaning.Names.{Names, Sort, Table, Formal, find, within, same_name, parameters, intrinsic_named, sum_value, profile_of, sort_by}
use Rattle.spl_ruled_bodies.specs.spl_meaning.Tables.{declared, shaped, intrinsic_sort, with_items, with_equates, with_intrinsics, with_labels, with_declaration, with_declarations}
use Rattle.spl_ruled_bodies.specs.spl_meaning.Places.{Place, above_base, Array, is_own, item_words, array_words, where_own, list_words, only, place_of, places_from, array_at, arrays_from}
use Rattle.spl_ruled_bodies.specs.spl_meaning.Kinds.{width}
use Rattle.spl_ruled_bodies.specs.spl_meaning.Limits.{most_locals}
use Rattle.std.specs.Cmp.Lexicographic.{same_text}
use Rattle.spl_readings.specs.spl_tree.declared.expressions.Kind.TheVariants as kind
use Rattle.spl_cells.specs.Settable.{is_local, has_origin}
use Rattle.spl_readings.specs.spl_places.Apart.{Spot, spot, spots_from}
use Rattle.spl_readings.specs.spl_places.Programs.{Each}
use Rattle.spl_readings.proofs.spl_places_proofs.ApartLaws as apart
use Rattle.spl_ruled_bodies.specs.spl_sound_names.Known.{is_item}
use Rattle.spl_ruled_bodies.proofs.spl_sound_names_proofs.Tables.{never}
use Rattle.spl_ruled_bodies.proofs.spl_sound_names_proofs.Levels.{some_same}
use Rattle.spl_ruled_bodies.proofs.spl_sound_names_proofs.Walks.{same_self}
use Rattle.spl_near_places.proofs.Lists.{spot_of_place}

-- ---- 1. names

-- each item of a list is what its name stands for in another
abbrev pub OwnIn : Table Sort → Table Sort → Type 0
OwnIn whole t = Each (λ e. is_item e.1 ≡ true → find whole e.0 ≡ Some e.1) t

-- so it is in one list
abbrev pub OwnNames : Table Sort → Type 0
OwnNames t = OwnIn t t

-- a name of the front of a list
find_front : (t : Table Sort) (y : List ℕ) (s : Sort) (x : List ℕ) (u : Sort) → find t x ≡ Some u → find (t ++ (y, s) ∷ []) x ≡ Some u
find_front [] y s x u is = cc
find_front (e ∷ t) y s x u is = by (same_name x e.0) (λ later. find_front t y s x u later) is
  where
    by : (b : Bool) → (find t x ≡ Some u → find (t ++ (y, s) ∷ []) x ≡ Some u) → (if b then Some e.1 else find t x) ≡ Some u
        → (if b then Some e.1 else find (t ++ (y, s) ∷ []) x) ≡ Some u
    by true later here = here
    by false later here = later here

-- a name that is declared last
pub find_new : (t : Table Sort) (y : List ℕ) (s : Sort) → find t y ≡ None → find (t ++ (y, s) ∷ []) y ≡ Some s
find_new [] y s none = ap (λ (b : Bool). if b then Some s else None) (same_self y)
find_new (e ∷ t) y s none = by (same_name y e.0) (λ later. find_new t y s later) none
  where
    by : (b : Bool) → (find t y ≡ None → find (t ++ (y, s) ∷ []) y ≡ Some s) → (if b then Some e.1 else find t y) ≡ None
        → (if b then Some e.1 else find (t ++ (y, s) ∷ []) y) ≡ Some s
    by true later here = cc
    by false later here = later here

-- a list that is longer, or ends with one name more
own_more : (whole t : Table Sort) (y : List ℕ) (s : Sort) → OwnIn whole t → OwnIn (whole ++ (y, s) ∷ []) t
own_more whole [] y s own = tt
own_more whole (e ∷ t) y s own = (λ item. find_front whole y s e.0 e.1 (own.0 item), own_more whole t y s own.1)

own_last : (whole t : Table Sort) (y : List ℕ) (s : Sort) → OwnIn whole t → (is_item s ≡ true → find whole y ≡ Some s) → OwnIn whole (t ++ (y, s) ∷ [])
own_last whole [] y s own one = (one, tt)
own_last whole (e ∷ t) y s own one = (own.0, own_last whole t y s own.1 one)

-- a name that is not there
pub none_there : (o : Option Sort) → is_some o ≡ false → o ≡ None
none_there None is = refl
none_there (Some s) is = never (sym is)

-- a name more
own_declared : (t : Table Sort) (y : List ℕ) (s : Sort) → OwnNames t → OwnNames (declared t y s)
own_declared t y s own = by (is_some (find t y)) refl
  where
    by : (b : Bool) → is_some (find t y) ≡ b → OwnNames (if b then t else t ++ (y, s) ∷ [])
    by true is = own
    by false is = own_last (t ++ (y, s) ∷ []) t y s (own_more t t y s own) (λ item. find_new t y s (none_there (find t y) is))

-- items, names for constants, intrinsics and labels, one by one
own_items : (outer : Names) (own : Bool) (k : Kind) (t : Table Sort) (is : List Item) → OwnNames t → OwnNames (with_items outer own k t is)
own_items outer own k t [] all = all
own_items outer own k t (i ∷ is) all =
    let s = shaped (within t outer) own k i.shape in own_items outer own k (declared t i.name s) is (own_declared t i.name s all)

own_equates : (outer : Names) (t : Table Sort) (es : List Equal) → OwnNames t → OwnNames (with_equates outer t es)
own_equates outer t [] all = all
own_equates outer t (e ∷ es) all =
    let s = n.equate (n.kept_value (sum_value (within t outer) e.terms)) in own_equates outer (declared t e.name s) es (own_declared t e.name s all)

own_intrinsics : (t : Table Sort) (xs : List Placed) → OwnNames t → OwnNames (with_intrinsics t xs)
own_intrinsics t [] all = all
own_intrinsics t (x ∷ xs) all =
    let s = intrinsic_sort (intrinsic_named x.letters) in own_intrinsics (declared t x.letters s) xs (own_declared t x.letters s all)

own_labels : (t : Table Sort) (xs : List Placed) → OwnNames t → OwnNames (with_labels t xs)
own_labels t [] all = all
own_labels t (x ∷ xs) all = own_labels (declared t x.letters n.label) xs (own_declared t x.letters n.label all)

-- one declaration, and all of them
own_declaration : (outer : Names) (t : Table Sort) (d : Declaration) → OwnNames t → OwnNames (with_declaration outer t d)
own_declaration outer t (decl.Declaration.data_items own k items) all = own_items outer own k t items all
own_declaration outer t (decl.Declaration.equate es) all = own_equates outer t es all
own_declaration outer t (decl.Declaration.intrinsic xs) all = own_intrinsics t xs all
own_declaration outer t (decl.Declaration.label xs) all = own_labels t xs all
own_declaration outer t (decl.Declaration.forward h) all = own_declared t h.name (n.procedure (profile_of h)) all
own_declaration outer t (decl.Declaration.external h) all = own_declared t h.name (n.procedure (profile_of h)) all
own_declaration outer t (decl.Declaration.procedure h items ss) all = own_declared t h.name (n.procedure (profile_of h)) all
own_declaration outer t (decl.Declaration.subroutine h s) all = own_declared t h.name (n.subroutine (profile_of h)) all

own_declarations : (outer : Names) (t : Table Sort) (ds : Declarations) → OwnNames t → OwnNames (with_declarations outer t ds)
own_declarations outer t decl.none all = all
own_declarations outer t (decl.and d ds) all = own_declarations outer (with_declaration outer t d) ds (own_declaration outer t d all)

-- a parameter is no item
sorted_no_item : (k : Option Kind) (array value : Bool) → is_item (sort_by k array value) ≡ false
sorted_no_item None array value = refl
sorted_no_item (Some k) true value = refl
sorted_no_item (Some k) false true = refl
sorted_no_item (Some k) false false = refl

-- so it asks nothing of parameters
own_parameters : (whole : Table Sort) (fs : List Formal) → OwnIn whole (parameters fs)
own_parameters whole [] = tt
own_parameters whole (f ∷ fs) = (λ item. never (sym (sorted_no_item f.kind f.array f.value) ∙ item), own_parameters whole fs)

-- the list of a procedure
pub own_names : (outer : Names) (fs : List Formal) (ds : Declarations) → OwnNames (with_declarations outer (parameters fs) ds)
own_names outer fs ds = own_declarations outer (parameters fs) ds (own_parameters (parameters fs) fs)

-- ---- 2. words

-- a kind has words
kind_words : (k : Kind) → nat_lt 0 (width k) ≡ true
kind_words kind.Integer = refl
kind_words kind.Logical = refl
kind_words kind.Byte = refl
kind_words kind.Double = refl

-- so has an item
item_there : (s : Sort) → is_item s ≡ true → nat_lt 0 (item_words s) ≡ true
item_there (n.simple k own) is = kind_words k
item_there (n.array k own low high) is = refl
item_there (n.view k own base) is = refl
item_there (n.pointer k own) is = refl
item_there (n.value k) is = never is
item_there (n.by_reference k) is = never is
item_there (n.array_parameter k) is = never is
item_there (n.equate v) is = never is
item_there n.label is = never is
item_there (n.intrinsic i) is = never is
item_there (n.procedure p) is = never is
item_there (n.subroutine p) is = never is
item_there n.unknown is = never is

-- the word of a name is that of what it stands for
pub record IsSpot (s : Sort) (p : Spot) : Type 0 where
  pub sort : p.sort ≡ s
  pub own : p.own ≡ is_own s

spot_same : (a b : Spot) → Some a ≡ Some b → a ≡ b
spot_same a b is = cc

first_spot : (owned here : ℕ) (s u : Sort) (p : Spot) → u ≡ s → spot owned here u ≡ p → IsSpot s p
first_spot owned here s u p same is = record { sort = ap (λ (q : Spot). q.sort) (sym is) ∙ same; own = ap (λ (q : Spot). q.own) (sym is) ∙ ap is_own same }

-- by its place in the list
pub spot_is : (owned here : ℕ) (t : Table Sort) (x : List ℕ) (s : Sort) (p : Spot) → find t x ≡ Some s → is_item s ≡ true → find (spots_from owned here t) x ≡ Some p
    → IsSpot s p
spot_is owned here [] x s p is item at = cc
spot_is owned here (e ∷ t) x s p is item at =
    by (same_name x e.0) refl is (λ later there. spot_is (owned + where_own true item_words e.1) (here + where_own false item_words e.1) t x s p later item there)
  where
    rest : Table Spot
    rest = spots_from (owned + where_own true item_words e.1) (here + where_own false item_words e.1) t

    -- the first, where it has words, is not of that name
    passed : (b : Bool) → same_name x e.0 ≡ false → find (only b (e.0, spot owned here e.1) ++ rest) x ≡ Some p → find rest x ≡ Some p
    passed true other there = sym (ap (λ (c : Bool). if c then Some (spot owned here e.1) else find rest x) other) ∙ there
    passed false other there = there

    found : (b : Bool) → b ≡ true → same_name x e.0 ≡ true → find (only b (e.0, spot owned here e.1) ++ rest) x ≡ Some p → spot owned here e.1 ≡ p
    found true words same there = spot_same _ p (sym (ap (λ (c : Bool). if c then Some (spot owned here e.1) else find rest x) same) ∙ there)
    found false words same there = never words

    by : (b : Bool) → same_name x e.0 ≡ b → (if b then Some e.1 else find t x) ≡ Some s
        → (find t x ≡ Some s → find rest x ≡ Some p → IsSpot s p) → IsSpot s p
    by true same there later =
        let sorts = some_same e.1 s there in
        first_spot owned here s e.1 p sorts (found (nat_lt 0 (item_words e.1)) (ap (λ (u : Sort). nat_lt 0 (item_words u)) sorts ∙ item_there s item) same at)
    by false same there later = later there (passed (nat_lt 0 (item_words e.1)) same at)

-- an item that is not OWN stands among the local words of a procedure
item_fits : (words count most n w : ℕ) → 1 ≤ n → n + w ≤ 1 + most → most ≤ most_locals → most ≤ words → count ≤ w → 1 ≤ w
    → (nat_lt 0 n && nat_le (n + count) (words + 1) && nat_lt n 128) ≡ true
item_fits words count most n w first ends few all less some =
    and_from (nat_lt 0 n && nat_le (n + count) (words + 1)) (nat_lt n 128)
    (and_from (nat_lt 0 n) (nat_le (n + count) (words + 1)) (lt-ltb 0 n (omega (arith, first))) (le-leb (n + count) (words + 1) (omega (arith, ends, all, less))))
    (lt-ltb n 128 (omega (arith, ends, few, some)))

-- by the sum of the words before it
pub item_local : (own more count : ℕ) (t : Table Sort) (x : List ℕ) (s : Sort) (p : Place) → find t x ≡ Some s → is_item s ≡ true → is_own s ≡ false
    → count ≤ item_words s → list_words false t ≤ most_locals → find (places_from above_base own 1 t) x ≡ Some p
    → is_local (list_words false t + more) count p ≡ true
item_local own more count t x s p is item other less few at =
    let k = spot_of_place above_base own 1 t x p at in
    let same = spot_is own 1 t x s k.item is item k.found in
    let r = (apart.within own 1 t x k.item k.found).other (same.own ∙ other) in
    let ends = subst (λ (u : Sort). k.item.word + item_words u ≤ 1 + list_words false t) same.sort r.1 in
    let some = ltb-true 0 (item_words s) (item_there s item) in
    ap (λ (q : Place). is_local (list_words false t + more) count q) (k.is ∙ ap (λ (b : Bool). place_of above_base b k.item.word k.item.word) (same.own ∙ other))
    ∙ item_fits (list_words false t + more) count (list_words false t) k.item.word (item_words s) r.0 ends few (all (list_words false t) more) less (suc_le (item_words s) some)
  where
    all : (a b : ℕ) → a ≤ a + b
    all a b = omega arith

    suc_le : (w : ℕ) → 0 < w → 1 ≤ w
    suc_le w h = omega (arith, h)

-- ---- 3. arrays

-- OWN data have an address, others stand above the base
place_origin : (own : Bool) (owned here : ℕ) → has_origin (place_of above_base own owned here) ≡ true
place_origin true owned here = refl
place_origin false owned here = refl

array_same : (a b : Array) → Some a ≡ Some b → a ≡ b
array_same a b is = cc

-- where an array's data begin
pub array_origin : (owned here : ℕ) (t : Table Sort) (x : List ℕ) (a : Array) → find (arrays_from above_base owned here t) x ≡ Some a → has_origin a.from ≡ true
array_origin owned here [] x a is = cc
array_origin owned here (e ∷ t) x a is =
    by e.1 is (λ later. array_origin (owned + where_own true array_words e.1) (here + where_own false array_words e.1) t x a later)
  where
    rest : Table Array
    rest = arrays_from above_base (owned + where_own true array_words e.1) (here + where_own false array_words e.1) t

    from : Place
    from = place_of above_base (is_own e.1) owned here

    first : (b : Bool) (k : Kind) (low : _) → (if b then Some (record { from = from; kind = k; low = low }) else find rest x) ≡ Some a
        → (find rest x ≡ Some a → has_origin a.from ≡ true) → has_origin a.from ≡ true
    first true k low there later = ap (λ (c : Array). has_origin c.from) (sym (array_same _ a there)) ∙ place_origin (is_own e.1) owned here
    first false k low there later = later there

    by : (s : Sort) → find (map (λ c. (e.0, c)) (array_at from s) ++ rest) x ≡ Some a → (find rest x ≡ Some a → has_origin a.from ≡ true) → has_origin a.from ≡ true
    by (n.array k own low high) there later = first (same_name x e.0) k low there later
    by (n.simple k own) there later = later there
    by (n.view k own base) there later = later there
    by (n.pointer k own) there later = later there
    by (n.value k) there later = later there
    by (n.by_reference k) there later = later there
    by (n.array_parameter k) there later = later there
    by (n.equate v) there later = later there
    by n.label there later = later there
    by (n.intrinsic i) there later = later there
    by (n.procedure p) there later = later there
    by (n.subroutine p) there later = later there
    by n.unknown there later = later there

-- whether it is an array with data
abbrev pub has_data : Sort → Bool
has_data (n.array k own low high) = true
has_data s = false

-- such an array is an item
data_item : (s : Sort) → has_data s ≡ true → is_item s ≡ true
data_item (n.array k own low high) is = refl
data_item (n.simple k own) is = never is
data_item (n.view k own base) is = never is
data_item (n.pointer k own) is = never is
data_item (n.value k) is = never is
data_item (n.by_reference k) is = never is
data_item (n.array_parameter k) is = never is
data_item (n.equate v) is = never is
data_item n.label is = never is
data_item (n.intrinsic i) is = never is
data_item (n.procedure p) is = never is
data_item (n.subroutine p) is = never is
data_item n.unknown is = never is

-- a name of an array's data stands for that array
pub array_sort : (owned here : ℕ) (whole t : Table Sort) → OwnIn whole t → (x : List ℕ) (a : Array) → find (arrays_from above_base owned here t) x ≡ Some a
    → (s : Sort) → find whole x ≡ Some s → has_data s ≡ true
array_sort owned here whole [] own x a is s named = cc
array_sort owned here whole (e ∷ t) own x a is s named =
    by (has_data e.1) refl (array_sort (owned + where_own true array_words e.1) (here + where_own false array_words e.1) whole t own.1 x a)
  where
    rest : Table Array
    rest = arrays_from above_base (owned + where_own true array_words e.1) (here + where_own false array_words e.1) t

    from : Place
    from = place_of above_base (is_own e.1) owned here

    -- what is no array has no data
    skipped : (u : Sort) → has_data u ≡ false → find (map (λ c. (e.0, c)) (array_at from u) ++ rest) x ≡ Some a → find rest x ≡ Some a
    skipped (n.array k o low high) without there = never (sym without)
    skipped (n.simple k o) without there = there
    skipped (n.view k o base) without there = there
    skipped (n.pointer k o) without there = there
    skipped (n.value k) without there = there
    skipped (n.by_reference k) without there = there
    skipped (n.array_parameter k) without there = there
    skipped (n.equate v) without there = there
    skipped n.label without there = there
    skipped (n.intrinsic i) without there = there
    skipped (n.procedure p) without there = there
    skipped (n.subroutine p) without there = there
    skipped n.unknown without there = there

    -- an array of another name
    other : (u : Sort) → same_name x e.0 ≡ false → find (map (λ c. (e.0, c)) (array_at from u) ++ rest) x ≡ Some a → find rest x ≡ Some a
    other (n.array k o low high) without there = sym (ap (λ (c : Bool). if c then Some (record { from = from; kind = k; low = low }) else find rest x) without) ∙ there
    other (n.simple k o) without there = there
    other (n.view k o base) without there = there
    other (n.pointer k o) without there = there
    other (n.value k) without there = there
    other (n.by_reference k) without there = there
    other (n.array_parameter k) without there = there
    other (n.equate v) without there = there
    other n.label without there = there
    other (n.intrinsic i) without there = there
    other (n.procedure p) without there = there
    other (n.subroutine p) without there = there
    other n.unknown without there = there

    named_so : (b : Bool) → same_name x e.0 ≡ b → has_data e.1 ≡ true → (find rest x ≡ Some a → (u : Sort) → find whole x ≡ Some u → has_data u ≡ true) → has_data s ≡ true
    named_so true same is_data later =
        ap has_data (sym (some_same e.1 s (sym (own.0 (data_item e.1 is_data)) ∙ ap (find whole) (sym (same_text x e.0 (sym same))) ∙ named))) ∙ is_data
    named_so false same is_data later = later (other e.1 same is) s named

    by : (b : Bool) → has_data e.1 ≡ b → (find rest x ≡ Some a → (u : Sort) → find whole x ≡ Some u → has_data u ≡ true) → has_data s ≡ true
    by true is_data later = named_so (same_name x e.0) refl is_data later
    by false without later = later (skipped e.1 without is) s named
