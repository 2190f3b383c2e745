-- Lists of names with the places of what they stand for: an item's in its list, a parameter's among the parameters, and one list around another.
use Rattle.std.proofs.Common.{◌≡◌, ℕ, ◌+◌, nat_lt, Bool, true, false, if◌then◌else◌, List, [], ◌∷◌, ◌++◌, Option, Some, None, is_some, refl, sym, ap, ◌∙◌}
use Rattle.spl_sound.specs.spl_tree.declared.expressions.Kind.TheVariants as kind
use Rattle.spl_sound.specs.spl_tree.DeclarationTrees.{Placed, Spec, Heading}
use Rattle.spl_sound.specs.spl_meaning.Names as n
use Rattle.spl_sound.specs.spl_meaning.Names.{Names, Sort, Table, find, or_else, same_name, parameters, formals_among, formals_of, spec_of, kind_in, is_array_in, lists, sort_by}
use Rattle.spl_sound.specs.spl_meaning.Places.{Place, only, place_of, places_from, item_words, is_own, where_own}
use Rattle.spl_sound.specs.spl_meaning.Bodies.{parameter_places}
use Rattle.spl_sound.specs.spl_meaning.Faults.{unless}
use Rattle.spl_sound.specs.spl_meaning.DeclarationRules.{without_kind}
use Rattle.spl_sound_names.specs.Known.{is_known, is_item, is_passed, is_inner, AreKnown, NamesAreFound}
use Rattle.spl_sound_names.proofs.Tables.{left_none, right_none, unless_none, never}

-- ---- places of items

has_words : (s : Sort) → is_item s ≡ true → nat_lt 0 (item_words s) ≡ true
has_words (n.simple kind.Integer own) is = refl
has_words (n.simple kind.Logical own) is = refl
has_words (n.simple kind.Byte own) is = refl
has_words (n.simple kind.Double own) is = refl
has_words (n.array k own low high) is = refl
has_words (n.view k own base) is = refl
has_words (n.pointer k own) is = refl
has_words (n.value k) is = never is
has_words (n.by_reference k) is = never is
has_words (n.array_parameter k) is = never is
has_words (n.equate v) is = never is
has_words n.label is = never is
has_words (n.intrinsic i) is = never is
has_words (n.procedure p) is = never is
has_words (n.subroutine p) is = never is
has_words n.unknown is = never is

-- an entry more, in front
still_there : (same : Bool) (p : Place) (o : Option Place) → is_some o ≡ true → is_some (if same then Some p else o) ≡ true
still_there true p o is = refl
still_there false p o is = is

in_front : (b : Bool) (e : List ℕ × Place) (t : Table Place) (x : List ℕ) → is_some (find t x) ≡ true → is_some (find (only b e ++ t) x) ≡ true
in_front true e t x is = still_there (same_name x e.0) e.1 (find t x) is
in_front false e t x is = is

pub some_same : (a b : Sort) → Some a ≡ Some b → a ≡ b
some_same a b same = cc

-- the place of the first entry, or of a later one
first_or_later : (same : Bool) (x name : List ℕ) (s u : Sort) (o : Option Sort) (spot : Place) (others : Table Place) → same_name x name ≡ same → is_item s ≡ true
    → (o ≡ Some s → is_some (find others x) ≡ true) → (if same then Some u else o) ≡ Some s → is_some (find (only (nat_lt 0 (item_words u)) (name, spot) ++ others) x) ≡ true
first_or_later true x name s u o spot others same item later is =
    let words : nat_lt 0 (item_words u) ≡ true = ap (λ (v : Sort). nat_lt 0 (item_words v)) (some_same u s is) ∙ has_words s item in
    ap (λ (b : Bool). is_some (find (only b (name, spot) ++ others) x)) words ∙ ap (λ (b : Bool). is_some (if b then Some spot else find others x)) same
first_or_later false x name s u o spot others same item later is = in_front (nat_lt 0 (item_words u)) (name, spot) others x (later is)

-- an item has its place in its list
pub placed_items : (at : ℕ → Place) (owned here : ℕ) (t : Table Sort) (x : List ℕ) (s : Sort) → find t x ≡ Some s → is_item s ≡ true
    → is_some (find (places_from at owned here t) x) ≡ true
placed_items at owned here [] x s is item = cc
placed_items at owned here (e ∷ es) x s is item =
    let behind = owned + where_own true item_words e.1 in
    let next = here + where_own false item_words e.1 in
    first_or_later (same_name x e.0) x e.0 s e.1 (find es x) (place_of at (is_own e.1) owned here) (places_from at behind next es) refl item
    (λ there. placed_items at behind next es x s there item) is

-- ---- parameters

sort_passed : (o : Option Spec) (value : Bool) → is_some o ≡ true → is_passed (sort_by (kind_in o) (is_array_in o) value) ≡ true
sort_passed (Some l) value is = by l.array value
  where
    by : (a v : Bool) → is_passed (sort_by (Some l.kind) a v) ≡ true
    by true v = refl
    by false true = refl
    by false false = refl
sort_passed None value is = never is

-- the first parameter of a name, or a later one
passed_one : (b : Bool) (s u : Sort) (o : Option Sort) (p : Place) (q : Option Place) → is_passed s ≡ true
    → (o ≡ Some u → (is_passed u ≡ true) × (is_some q ≡ true)) → (if b then Some s else o) ≡ Some u
    → (is_passed u ≡ true) × (is_some (if b then Some p else q) ≡ true)
passed_one true s u o p q is later there = (ap is_passed (sym (some_same s u there)) ∙ is, refl)
passed_one false s u o p q is later there = later there

-- what a name among parameters with kinds stands for is one, and has its place
pub passed_found : (h : Heading) (ns : List Placed) (below : ℕ → Place) (gap : ℕ) → without_kind h.specs ns ≡ [] → (x : List ℕ) (u : Sort)
    → find (parameters (formals_among h ns)) x ≡ Some u → (is_passed u ≡ true) × (is_some (find (parameter_places below gap (formals_among h ns)) x) ≡ true)
passed_found h [] below gap none x u is = cc
passed_found h (p ∷ ps) below gap none x u is =
    let has = is_some (spec_of h.specs p.letters) in
    let one = unless_none has 18 p.at (left_none (unless has 18 p.at) (without_kind h.specs ps) none) in
    passed_one (same_name x p.letters) _ u (find (parameters (formals_among h ps)) x) _ (find (parameter_places below gap (formals_among h ps)) x)
    (sort_passed (spec_of h.specs p.letters) (lists h.values p.letters) one)
    (λ there. passed_found h ps below gap (right_none (unless has 18 p.at) (without_kind h.specs ps) none) x u there) is

-- a parameter is known, and nothing else
passed_known : (s : Sort) → is_passed s ≡ true → is_known s ≡ true
passed_known (n.value k) is = refl
passed_known (n.by_reference k) is = refl
passed_known (n.array_parameter k) is = refl
passed_known (n.simple k own) is = refl
passed_known (n.array k own low high) is = refl
passed_known (n.view k own base) is = refl
passed_known (n.pointer k own) is = refl
passed_known (n.equate v) is = never is
passed_known n.label is = refl
passed_known (n.intrinsic i) is = refl
passed_known (n.procedure p) is = refl
passed_known (n.subroutine p) is = refl
passed_known n.unknown is = never is

passed_no_inner : {A : Type 0} (s : Sort) → is_passed s ≡ true → is_inner s ≡ true → A
passed_no_inner (n.value k) is inner = never inner
passed_no_inner (n.by_reference k) is inner = never inner
passed_no_inner (n.array_parameter k) is inner = never inner
passed_no_inner (n.simple k own) is inner = never inner
passed_no_inner (n.array k own low high) is inner = never inner
passed_no_inner (n.view k own base) is inner = never inner
passed_no_inner (n.pointer k own) is inner = never inner
passed_no_inner (n.equate v) is inner = never inner
passed_no_inner n.label is inner = never inner
passed_no_inner (n.intrinsic i) is inner = never inner
passed_no_inner (n.procedure p) is inner = never inner
passed_no_inner (n.subroutine p) is inner = never is
passed_no_inner n.unknown is inner = never inner

passed_no_item : {A : Type 0} (s : Sort) → is_passed s ≡ true → is_item s ≡ true → A
passed_no_item (n.value k) is item = never item
passed_no_item (n.by_reference k) is item = never item
passed_no_item (n.array_parameter k) is item = never item
passed_no_item (n.simple k own) is item = never is
passed_no_item (n.array k own low high) is item = never is
passed_no_item (n.view k own base) is item = never is
passed_no_item (n.pointer k own) is item = never is
passed_no_item (n.equate v) is item = never item
passed_no_item n.label is item = never item
passed_no_item (n.intrinsic i) is item = never item
passed_no_item (n.procedure p) is item = never item
passed_no_item (n.subroutine p) is item = never item
passed_no_item n.unknown is item = never item

-- the parameters of a heading, before any declaration
pub known_parameters : (h : Heading) (below : ℕ → Place) (gap : ℕ) (inner : List ℕ → Bool) → without_kind h.specs h.names ≡ []
    → AreKnown (λ x. is_some (find (parameter_places below gap (formals_of h)) x)) inner (find (parameters (formals_of h)))
known_parameters h below gap inner none = record {
  known = λ x u is. passed_known u (passed_found h h.names below gap none x u is).0;
  passed = λ x u is _. (passed_found h h.names below gap none x u is).1;
  inner = λ x u is sub. passed_no_inner u (passed_found h h.names below gap none x u is).0 sub;
}

-- and as the names of a subroutine
pub parameters_found : (h : Heading) (below : ℕ → Place) (gap : ℕ) (entries : List ℕ → Option ℕ) → without_kind h.specs h.names ≡ []
    → NamesAreFound (find (parameters (formals_of h))) (find (parameter_places below gap (formals_of h))) entries
parameters_found h below gap entries none = record {
  known = λ x u is. passed_known u (passed_found h h.names below gap none x u is).0;
  items = λ x u is item. passed_no_item u (passed_found h h.names below gap none x u is).0 item;
  passed = λ x u is _. (passed_found h h.names below gap none x u is).1;
  inner = λ x u is sub. passed_no_inner u (passed_found h h.names below gap none x u is).0 sub;
}

-- ---- lists

-- a name of one table or the other
front_one : (b : Bool) (p : Place) (o q : Option Place) → (is_some o ≡ true → is_some q ≡ true) → is_some (if b then Some p else o) ≡ true
    → is_some (if b then Some p else q) ≡ true
front_one true p o q later is = refl
front_one false p o q later is = later is

find_front : (s t : Table Place) (x : List ℕ) → is_some (find s x) ≡ true → is_some (find (s ++ t) x) ≡ true
find_front [] t x is = never is
find_front (e ∷ s) t x is = front_one (same_name x e.0) e.1 (find s x) (find (s ++ t) x) (λ there. find_front s t x there) is

find_behind : (s t : Table Place) (x : List ℕ) → is_some (find t x) ≡ true → is_some (find (s ++ t) x) ≡ true
find_behind [] t x is = is
find_behind (e ∷ s) t x is = still_there (same_name x e.0) e.1 (find (s ++ t) x) (find_behind s t x is)

-- a list behind parameters: its items stand one behind the other
pub list_found : (ps : Table Place) (at : ℕ → Place) (owned here : ℕ) (t : Table Sort) (entries : List ℕ → Option ℕ)
    → AreKnown (λ x. is_some (find ps x)) (λ x. is_some (entries x)) (find t) → NamesAreFound (find t) (find (ps ++ places_from at owned here t)) entries
list_found ps at owned here t entries are = record {
  known = are.known;
  items = λ x s is item. find_behind ps (places_from at owned here t) x (placed_items at owned here t x s is item);
  passed = λ x s is passed. find_front ps (places_from at owned here t) x (are.passed x s is passed);
  inner = are.inner;
}

-- the first names of a list, none of which is a subroutine: their items have their places among those of all
pub first_found : (at : ℕ → Place) (owned here : ℕ) (first t : Table Sort) (entries : List ℕ → Option ℕ)
    → AreKnown (λ x. false) (λ x. false) (find first) → ((x : List ℕ) (s : Sort) → find first x ≡ Some s → find t x ≡ Some s)
    → NamesAreFound (find first) (find (places_from at owned here t)) entries
first_found at owned here first t entries are kept = record {
  known = are.known;
  items = λ x s is item. placed_items at owned here t x s (kept x s is) item;
  passed = λ x s is passed. never (are.passed x s is passed);
  inner = λ x s is inner. never (are.inner x s is inner);
}

-- one of two is there
pub first_there : (o p : Option Place) → is_some o ≡ true → is_some (or_else o p) ≡ true
first_there (Some a) p is = refl
first_there None p is = never is

pub second_there : (o p : Option Place) → is_some p ≡ true → is_some (or_else o p) ≡ true
second_there (Some a) p is = refl
second_there None p is = is

-- a list in another
pub over_found : (here outer : Names) (p q : List ℕ → Option Place) (entries : List ℕ → Option ℕ) → NamesAreFound here p entries → NamesAreFound outer q entries
    → NamesAreFound (λ x. or_else (here x) (outer x)) (λ x. or_else (p x) (q x)) entries
over_found here outer p q entries a b = record {
  known = λ x s is. known x s (here x) refl is;
  items = λ x s is item. items x s (here x) refl is item;
  passed = λ x s is one. passed x s (here x) refl is one;
  inner = λ x s is one. inner x s (here x) refl is one;
}
  where
    known : (x : List ℕ) (s : Sort) (o : Option Sort) → here x ≡ o → or_else o (outer x) ≡ Some s → is_known s ≡ true
    known x s (Some u) there is = a.known x s (there ∙ is)
    known x s None there is = b.known x s is

    items : (x : List ℕ) (s : Sort) (o : Option Sort) → here x ≡ o → or_else o (outer x) ≡ Some s → is_item s ≡ true → is_some (or_else (p x) (q x)) ≡ true
    items x s (Some u) there is item = first_there (p x) (q x) (a.items x s (there ∙ is) item)
    items x s None there is item = second_there (p x) (q x) (b.items x s is item)

    passed : (x : List ℕ) (s : Sort) (o : Option Sort) → here x ≡ o → or_else o (outer x) ≡ Some s → is_passed s ≡ true → is_some (or_else (p x) (q x)) ≡ true
    passed x s (Some u) there is one = first_there (p x) (q x) (a.passed x s (there ∙ is) one)
    passed x s None there is one = second_there (p x) (q x) (b.passed x s is one)

    inner : (x : List ℕ) (s : Sort) (o : Option Sort) → here x ≡ o → or_else o (outer x) ≡ Some s → is_inner s ≡ true → is_some (entries x) ≡ true
    inner x s (Some u) there is one = a.inner x s (there ∙ is) one
    inner x s None there is one = b.inner x s is one

-- places of results before the others
pub more_found : (names : Names) (p q : List ℕ → Option Place) (entries : List ℕ → Option ℕ) → NamesAreFound names q entries
    → NamesAreFound names (λ x. or_else (p x) (q x)) entries
more_found names p q entries a = record {
  known = a.known;
  items = λ x s is item. second_there (p x) (q x) (a.items x s is item);
  passed = λ x s is one. second_there (p x) (q x) (a.passed x s is one);
  inner = a.inner;
}
