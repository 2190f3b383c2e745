-- The items of lists that break no rule: none of a unit's list is OWN, a subprogram has none, and none of a split procedure's list is OWN.
-- 1. what holds of each entry of a table                       (each_declared ..)
-- 2. so it is with lists that break no rule                     (globals_each, locals_each)
-- 3. how many words they have, and where these stand            (own_none, words_none, spot_of_place)
use Rattle.std.proofs.Common.{ℕ, ◌≡◌, ◌+◌, nat_lt, not, ◌||◌, Bool, true, false, if◌then◌else◌, List, [], ◌∷◌, ◌++◌, length, Option, Some, None, is_some, refl, sym, ap, subst, ◌∙◌, arith}
use Rattle.std.specs.Prelude.{option_map}
use Rattle.spl_sound_names.specs.spl_tree.declared.expressions.Kind.{Kind}
use Rattle.spl_sound_names.specs.spl_tree.DeclarationTrees as decl
use Rattle.spl_sound_names.specs.spl_tree.DeclarationTrees.{Placed, Item, Equal, Declaration, Declarations}
use Rattle.spl_sound_names.specs.spl_meaning.Names as n
use Rattle.spl_sound_names.specs.spl_meaning.Names.{Names, Sort, Table, Formal, find, within, same_name, nothing_declared, intrinsic_named, parameters, sum_value, sort_by, profile_of}
use Rattle.spl_sound_names.specs.spl_meaning.Tables.{Routine, declared, shaped, intrinsic_sort, with_items, with_equates, with_intrinsics, with_labels, with_declaration, with_declarations}
use Rattle.spl_sound_names.specs.spl_meaning.Places.{Place, is_own, item_words, where_own, list_words, only, places_from}
use Rattle.spl_sound_names.specs.spl_meaning.Faults.{unless}
use Rattle.spl_sound_names.specs.spl_meaning.ExpressionRules.{Scope}
use Rattle.spl_sound_names.specs.spl_meaning.DeclarationRules.{Around, Waiting, twice, shape_faults, initials_faults, values_fit, may_begin, item_faults, items_faults, local_faults_of, local_faults, global_faults, globals_faults, waiting_behind}
use Rattle.spl_fits.specs.spl_places.Apart.{Spot, spot, spots_from, place_at}
use Rattle.spl_fits.specs.spl_places.Programs.{Each}
use Rattle.spl_fits.proofs.spl_places_proofs.ApartLaws.{place_found}
use Rattle.spl_sound_names.proofs.Tables.{left_none, right_none, unless_none, never}
use Rattle.spl_sound_names.proofs.Walks.{around_unit}

-- ---- 1. entries

-- so it is with what each entry stands for
abbrev pub EachSort : (Sort → Type 0) → Table Sort → Type 0
EachSort P t = Each (λ e. P e.1) t

each_behind : (P : Sort → Type 0) (t : Table Sort) (y : List ℕ) (s : Sort) → EachSort P t → P s → EachSort P (t ++ (y, s) ∷ [])
each_behind P [] y s all one = (one, tt)
each_behind P (e ∷ t) y s all one = (all.0, each_behind P t y s all.1 one)

each_declared : (P : Sort → Type 0) (t : Table Sort) (y : List ℕ) (s : Sort) → EachSort P t → P s → EachSort P (declared t y s)
each_declared P t y s all one = by (is_some (find t y))
  where
    by : (b : Bool) → EachSort P (if b then t else t ++ (y, s) ∷ [])
    by true = all
    by false = each_behind P t y s all one

-- what is declared but items
pub record Holds (P : Sort → Type 0) : Type 0 where
  pub equates : (v : Option _) → P (n.equate v)
  pub labels : P n.label
  pub intrinsics : (x : List ℕ) → P (intrinsic_sort (intrinsic_named x))
  pub procedures : (p : _) → P (n.procedure p)
  pub subroutines : (p : _) → P (n.subroutine p)

-- items of one declaration, where each shape gives such a sort
each_items : (P : Sort → Type 0) (outer : Names) (own : Bool) (k : Kind) (t : Table Sort) (is : List Item)
    → ((names : Names) (shape : decl.Shape) → P (shaped names own k shape)) → EachSort P t → EachSort P (with_items outer own k t is)
each_items P outer own k t [] one all = all
each_items P outer own k t (i ∷ is) one all =
    each_items P outer own k (declared t i.name (shaped (within t outer) own k i.shape)) is one
    (each_declared P t i.name (shaped (within t outer) own k i.shape) all (one (within t outer) i.shape))

each_equates : (P : Sort → Type 0) → Holds P → (outer : Names) (t : Table Sort) (es : List Equal) → EachSort P t → EachSort P (with_equates outer t es)
each_equates P h outer t [] all = all
each_equates P h outer t (e ∷ es) all =
    let s = n.equate (n.kept_value (sum_value (within t outer) e.terms)) in
    each_equates P h outer (declared t e.name s) es (each_declared P t e.name s all (h.equates (n.kept_value (sum_value (within t outer) e.terms))))

each_intrinsics : (P : Sort → Type 0) → Holds P → (t : Table Sort) (xs : List Placed) → EachSort P t → EachSort P (with_intrinsics t xs)
each_intrinsics P h t [] all = all
each_intrinsics P h t (x ∷ xs) all =
    let s = intrinsic_sort (intrinsic_named x.letters) in
    each_intrinsics P h (declared t x.letters s) xs (each_declared P t x.letters s all (h.intrinsics x.letters))

each_labels : (P : Sort → Type 0) → Holds P → (t : Table Sort) (xs : List Placed) → EachSort P t → EachSort P (with_labels t xs)
each_labels P h t [] all = all
each_labels P h t (x ∷ xs) all = each_labels P h (declared t x.letters n.label) xs (each_declared P t x.letters n.label all h.labels)

-- a declaration, where its items are such, if it has some
each_declaration : (P : Sort → Type 0) → Holds P → (outer : Names) (t : Table Sort) (d : Declaration)
    → ((own : Bool) (k : Kind) (is : List Item) → d ≡ decl.Declaration.data_items own k is → EachSort P (with_items outer own k t is)) → EachSort P t
    → EachSort P (with_declaration outer t d)
each_declaration P h outer t (decl.Declaration.data_items own k is) items all = items own k is refl
each_declaration P h outer t (decl.Declaration.equate es) items all = each_equates P h outer t es all
each_declaration P h outer t (decl.Declaration.intrinsic xs) items all = each_intrinsics P h t xs all
each_declaration P h outer t (decl.Declaration.label xs) items all = each_labels P h t xs all
each_declaration P h outer t (decl.Declaration.forward f) items all = each_declared P t f.name (n.procedure (profile_of f)) all (h.procedures (profile_of f))
each_declaration P h outer t (decl.Declaration.external f) items all = each_declared P t f.name (n.procedure (profile_of f)) all (h.procedures (profile_of f))
each_declaration P h outer t (decl.Declaration.procedure f is ss) items all =
    each_declared P t f.name (n.procedure (profile_of f)) all (h.procedures (profile_of f))
each_declaration P h outer t (decl.Declaration.subroutine f s) items all =
    each_declared P t f.name (n.subroutine (profile_of f)) all (h.subroutines (profile_of f))

-- ---- 2. lists that break no rule

-- what an item says of the list in which it stands
record Allowed (a : Around) (own : Bool) : Type 0 where
  kept : (not own || a.in_procedure) ≡ true
  whole : (not own || not a.split) ≡ true
  data' : not a.subprogram ≡ true

allowed : (a : Around) (t : Table Sort) (own : Bool) (k : Kind) (i : Item) → item_faults a t own k i ≡ [] → Allowed a own
allowed a t own k i none =
    let front = twice t i.name i.at ++ shape_faults a t own k i.shape i.at ++ initials_faults (within t a.names) k i.at i.first
    ++ unless (values_fit (within t a.names) i.shape (length i.first)) 15 i.at ++ unless (may_begin a own i.shape (length i.first)) 17 i.at in
    let kept = unless (not own || a.in_procedure) 17 i.at in
    let whole = unless (not own || not a.split) 27 i.at in
    let data' = unless (not a.subprogram) 28 i.at in
    let of_whole = left_none (front ++ kept ++ whole) data' none in
    record {
      kept = unless_none (not own || a.in_procedure) 17 i.at (right_none front kept (left_none (front ++ kept) whole of_whole));
      whole = unless_none (not own || not a.split) 27 i.at (right_none (front ++ kept) whole of_whole);
      data' = unless_none (not a.subprogram) 28 i.at (right_none (front ++ kept ++ whole) data' none);
    }

-- an item that is not OWN, and none in a subprogram
abbrev pub Kept : Bool → Sort → Type 0
Kept sub s = (is_own s ≡ false) × (sub ≡ true → item_words s ≡ 0)

intrinsic_kept : (sub : Bool) (x : List ℕ) → Kept sub (intrinsic_sort (intrinsic_named x))
intrinsic_kept sub x = by (intrinsic_named x)
  where
    by : (o : Option _) → Kept sub (intrinsic_sort o)
    by (Some i) = (refl, λ _. refl)
    by None = (refl, λ _. refl)

kept_others : (sub : Bool) → Holds (Kept sub)
kept_others sub = record {
  equates = λ v. (refl, λ _. refl);
  labels = (refl, λ _. refl);
  intrinsics = intrinsic_kept sub;
  procedures = λ p. (refl, λ _. refl);
  subroutines = λ p. (refl, λ _. refl);
}

no_flag : (b : Bool) → not b ≡ true → b ≡ false
no_flag false is = refl
no_flag true is = never is

either_flag : (b : Bool) → (not b || false) ≡ true → b ≡ false
either_flag false is = refl
either_flag true is = never is

-- what a shape stands for is OWN where it is declared so
own_shaped : (names : Names) (own : Bool) (k : Kind) (shape : decl.Shape) → is_own (shaped names own k shape) ≡ own
own_shaped names own k decl.Shape.simple = refl
own_shaped names own k (decl.Shape.array low high) = refl
own_shaped names own k (decl.Shape.view base) = refl
own_shaped names own k decl.Shape.pointer = refl

global_items : (sub own : Bool) (k : Kind) (t : Table Sort) (is : List Item) → items_faults (around_unit sub) t own k is ≡ [] → EachSort (Kept sub) t
    → EachSort (Kept sub) (with_items nothing_declared own k t is)
global_items sub own k t [] none all = all
global_items sub own k t (i ∷ is) none all =
    let one = allowed (around_unit sub) t own k i
    (left_none (item_faults (around_unit sub) t own k i)
    (items_faults (around_unit sub) (declared t i.name (shaped (within t nothing_declared) own k i.shape)) own k is) none) in
    each_items (Kept sub) nothing_declared own k t (i ∷ is)
    (λ names shape. (own_shaped names own k shape ∙ either_flag own one.kept, λ yes. never (sym (no_flag sub one.data') ∙ yes))) all

-- the list of a unit that breaks no rule
pub globals_each : (sub : Bool) (sc : Scope) (others : List Routine) (w : Waiting) (t : Table Sort) (ds : Declarations)
    → globals_faults (around_unit sub) sc others w t ds ≡ [] → EachSort (Kept sub) t → EachSort (Kept sub) (with_declarations nothing_declared t ds)
globals_each sub sc others w t decl.none none all = all
globals_each sub sc others w t (decl.and d ds) none all =
    let behind = with_declaration nothing_declared t d in
    let of_d = global_faults (around_unit sub) sc others w t d ds in
    let of_rest = globals_faults (around_unit sub) sc others (waiting_behind w d) behind ds in
    globals_each sub sc others (waiting_behind w d) behind ds (right_none of_d of_rest none)
    (each_declaration (Kept sub) (kept_others sub) nothing_declared t d
    (λ own k is same. global_items sub own k t is
    (subst (λ e. global_faults (around_unit sub) sc others w t e ds ≡ []) same (left_none of_d of_rest none)) all) all)

-- ---- in a split procedure

abbrev pub NotOwn : Sort → Type 0
NotOwn s = is_own s ≡ false

not_own_others : Holds NotOwn
not_own_others = record {
  equates = λ v. refl;
  labels = refl;
  intrinsics = λ x. (intrinsic_kept false x).0;
  procedures = λ p. refl;
  subroutines = λ p. refl;
}

split_items : (a : Around) → a.split ≡ true → (own : Bool) (k : Kind) (t : Table Sort) (is : List Item) → items_faults a t own k is ≡ [] → EachSort NotOwn t
    → EachSort NotOwn (with_items a.names own k t is)
split_items a split own k t [] none all = all
split_items a split own k t (i ∷ is) none all =
    let one = allowed a t own k i
    (left_none (item_faults a t own k i) (items_faults a (declared t i.name (shaped (within t a.names) own k i.shape)) own k is) none) in
    each_items NotOwn a.names own k t (i ∷ is)
    (λ names shape. own_shaped names own k shape ∙ either_flag own (ap (λ (b : Bool). not own || not b) (sym split) ∙ one.whole)) all

pub locals_each : (a : Around) → a.split ≡ true → (sc : Scope) (t : Table Sort) (ds : Declarations) → local_faults a sc t ds ≡ [] → EachSort NotOwn t
    → EachSort NotOwn (with_declarations a.names t ds)
locals_each a split sc t decl.none none all = all
locals_each a split sc t (decl.and d ds) none all =
    let behind = with_declaration a.names t d in
    let of_d = local_faults_of a sc t d in
    let of_rest = local_faults a sc behind ds in
    locals_each a split sc behind ds (right_none of_d of_rest none)
    (each_declaration NotOwn not_own_others a.names t d
    (λ own k is same. split_items a split own k t is (subst (λ e. local_faults_of a sc t e ≡ []) same (left_none of_d of_rest none)) all) all)

-- parameters are not OWN
sort_not_own : (k : Option Kind) (array value : Bool) → NotOwn (sort_by k array value)
sort_not_own None array value = refl
sort_not_own (Some k) true value = refl
sort_not_own (Some k) false true = refl
sort_not_own (Some k) false false = refl

pub parameters_each : (fs : List Formal) → EachSort NotOwn (parameters fs)
parameters_each [] = tt
parameters_each (f ∷ fs) = (sort_not_own f.kind f.array f.value, parameters_each fs)

-- ---- 3. words

nothing_kept : (s : Sort) → is_own s ≡ false → where_own true item_words s ≡ 0
nothing_kept s is = ap (λ (b : Bool). if b then item_words s else 0) is

no_words : (own : Bool) (s : Sort) → item_words s ≡ 0 → where_own own item_words s ≡ 0
no_words true s is = by (is_own s)
  where
    by : (b : Bool) → (if b then item_words s else 0) ≡ 0
    by true = is
    by false = refl
no_words false s is = by (is_own s)
  where
    by : (b : Bool) → (if b then 0 else item_words s) ≡ 0
    by true = refl
    by false = is

both_none : (a b : ℕ) → a ≡ 0 → b ≡ 0 → a + b ≡ 0
both_none a b p q = omega (arith, p, q)

-- where none is OWN, those that are have no words
pub own_none : (t : Table Sort) → EachSort NotOwn t → list_words true t ≡ 0
own_none [] all = refl
own_none (e ∷ t) all = both_none (where_own true item_words e.1) (list_words true t) (nothing_kept e.1 all.0) (own_none t all.1)

-- where none has words, the list has none
pub words_none : (own : Bool) (t : Table Sort) → EachSort (λ s. item_words s ≡ 0) t → list_words own t ≡ 0
words_none own [] all = refl
words_none own (e ∷ t) all = both_none (where_own own item_words e.1) (list_words own t) (no_words own e.1 all.0) (words_none own t all.1)

-- what is kept is not OWN; and in a subprogram it has no words
pub kept_own : (sub : Bool) (t : Table Sort) → EachSort (Kept sub) t → EachSort NotOwn t
kept_own sub [] all = tt
kept_own sub (e ∷ t) all = (all.0.0, kept_own sub t all.1)

pub kept_words : (t : Table Sort) → EachSort (Kept true) t → EachSort (λ s. item_words s ≡ 0) t
kept_words [] all = tt
kept_words (e ∷ t) all = (all.0.1 refl, kept_words t all.1)

-- ---- spots

-- a place in a list is that of an item, which has words
pub record Spotted (at : ℕ → Place) (own here : ℕ) (t : Table Sort) (x : List ℕ) (p : Place) : Type 0 where
  pub item : Spot
  pub found : find (spots_from own here t) x ≡ Some item
  pub is : p ≡ place_at at item
  pub words : nat_lt 0 (item_words item.sort) ≡ true

spot_words : (own here : ℕ) (t : Table Sort) (x : List ℕ) (s : Spot) → find (spots_from own here t) x ≡ Some s → nat_lt 0 (item_words s.sort) ≡ true
spot_words own here [] x s is = cc
spot_words own here (e ∷ t) x s is =
    by (nat_lt 0 (item_words e.1)) refl is (spot_words (own + where_own true item_words e.1) (here + where_own false item_words e.1) t x s)
  where
    rest : Table Spot
    rest = spots_from (own + where_own true item_words e.1) (here + where_own false item_words e.1) t

    first : (b : Bool) → nat_lt 0 (item_words e.1) ≡ true → (if b then Some (spot own here e.1) else find rest x) ≡ Some s
        → (find rest x ≡ Some s → nat_lt 0 (item_words s.sort) ≡ true) → nat_lt 0 (item_words s.sort) ≡ true
    first true some here later = ap (λ (o : Option Spot). by_words o) (sym here) ∙ some
      where
        by_words : Option Spot → Bool
        by_words None = true
        by_words (Some p) = nat_lt 0 (item_words p.sort)
    first false some here later = later here

    by : (b : Bool) → nat_lt 0 (item_words e.1) ≡ b → find (only b (e.0, spot own here e.1) ++ rest) x ≡ Some s
        → (find rest x ≡ Some s → nat_lt 0 (item_words s.sort) ≡ true) → nat_lt 0 (item_words s.sort) ≡ true
    by true some there later = first (same_name x e.0) some there later
    by false some there later = later there

pub spot_of_place : (at : ℕ → Place) (own here : ℕ) (t : Table Sort) (x : List ℕ) (p : Place) → find (places_from at own here t) x ≡ Some p → Spotted at own here t x p
spot_of_place at own here t x p is = by (find (spots_from own here t) x) refl (sym (place_found at own here t x) ∙ is)
  where
    place_same : (q : Place) → Some q ≡ Some p → p ≡ q
    place_same q e = cc

    by : (o : Option Spot) → find (spots_from own here t) x ≡ o → option_map (place_at at) o ≡ Some p → Spotted at own here t x p
    by None there e = cc
    by (Some s) there e = record { item = s; found = there; is = place_same (place_at at s) e; words = spot_words own here t x s there }
