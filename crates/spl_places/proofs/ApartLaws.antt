-- The items of a list stand one behind the other.
use Rattle.std.proofs.Common.{ℕ, ◌≡◌, ◌≤◌, ◌⊎◌, ◌+◌, Bool, true, false, nat_lt, List, [], ◌∷◌, ◌++◌, Option, Some, refl, sym, ap, ◌∙◌, subst, inl, inr, arith}
use Rattle.std.specs.Prelude.{if◌then◌else◌, option_map}
use Rattle.std.specs.Cmp.Lexicographic.{same_text}
use Rattle.spl_sorts.specs.spl_meaning.Names as n
use Rattle.spl_sorts.specs.spl_meaning.Names.{Sort, Table, find, same_name}
use Rattle.spl_sorts.specs.spl_meaning.Places.{Place, is_own, item_words, where_own, list_words, only, place_of, places_from}
use Rattle.spl_sorts.specs.spl_meaning.Kinds.{width}
use Rattle.spl_tree.specs.declared.expressions.Kind.{Kind}
use Rattle.spl_tree.specs.declared.expressions.Kind.TheVariants as kind
use Rattle.spl_places.specs.Held.{is_data, held}
use Rattle.spl_places.specs.Apart.{Spot, spot, spots_from, place_at, Within, Apart}

-- ---- look-ups

first_found : {A B : Type 0} (f : A → B) (same : Bool) (a : A) (o : Option A) (b : B) (u : Option B) → b ≡ f a → u ≡ option_map f o
    → (if same then Some b else u) ≡ option_map f (if same then Some a else o)
first_found f true a o b u is rest = ap Some is
first_found f false a o b u is rest = rest

only_found : {A B : Type 0} (f : A → B) (there : Bool) (x name : List ℕ) (a : A) (b : B) (ps : Table B) (qs : Table A) → b ≡ f a
    → find ps x ≡ option_map f (find qs x) → find (only there (name, b) ++ ps) x ≡ option_map f (find (only there (name, a) ++ qs) x)
only_found f true x name a b ps qs is rest = first_found f (same_name x name) a (find qs x) b (find ps x) is rest
only_found f false x name a b ps qs is rest = rest

place_is : (at : ℕ → Place) (own : Bool) (owned here : ℕ) → place_of at own owned here ≡ place_of at own (if own then owned else here) (if own then owned else here)
place_is at true owned here = refl
place_is at false owned here = refl

-- a name's place is that of its item
pub place_found : (at : ℕ → Place) (owned here : ℕ) (t : Table Sort) (x : List ℕ)
    → find (places_from at owned here t) x ≡ option_map (place_at at) (find (spots_from owned here t) x)
place_found at owned here [] x = refl
place_found at owned here (e ∷ t) x =
    let w = where_own true item_words e.1 in
    let v = where_own false item_words e.1 in
    only_found (place_at at) (nat_lt 0 (item_words e.1)) x e.0 (spot owned here e.1) (place_of at (is_own e.1) owned here)
    (places_from at (owned + w) (here + v) t) (spots_from (owned + w) (here + v) t)
    (place_is at (is_own e.1) owned here) (place_found at (owned + w) (here + v) t x)

has_width : (k : Kind) → nat_lt 0 (width k) ≡ true
has_width kind.Integer = refl
has_width kind.Logical = refl
has_width kind.Byte = refl
has_width kind.Double = refl

-- items of data are those that have words
has_words : (s : Sort) → is_data s ≡ nat_lt 0 (item_words s)
has_words (n.simple k own) = sym (has_width k)
has_words (n.array k own low high) = refl
has_words (n.view k own base) = refl
has_words (n.pointer k own) = refl
has_words (n.value k) = refl
has_words (n.by_reference k) = refl
has_words (n.array_parameter k) = refl
has_words (n.equate v) = refl
has_words n.label = refl
has_words (n.intrinsic i) = refl
has_words (n.procedure p) = refl
has_words (n.subroutine p) = refl
has_words n.unknown = refl

-- and a name's item is the one that the list holds
pub sort_found : (owned here : ℕ) (t : Table Sort) (x : List ℕ) → find (held t) x ≡ option_map (λ p. p.sort) (find (spots_from owned here t) x)
sort_found owned here [] x = refl
sort_found owned here (e ∷ t) x =
    let w = where_own true item_words e.1 in
    let v = where_own false item_words e.1 in
    ap (λ (b : Bool). find (only b e ++ held t) x) (has_words e.1)
    ∙ only_found (λ (p : Spot). p.sort) (nat_lt 0 (item_words e.1)) x e.0 (spot owned here e.1) e.1 (held t) (spots_from (owned + w) (here + v) t)
    refl (sort_found (owned + w) (here + v) t x)

-- ---- what a look-up finds is first, or behind

some_same : {A : Type 0} (a b : A) → Some a ≡ Some b → a ≡ b
some_same a b is = cc

split : {A : Type 0} (there : Bool) (x name : List ℕ) (a p : A) (qs : Table A) → find (only there (name, a) ++ qs) x ≡ Some p
    → ((a ≡ p) × (same_name x name ≡ true)) ⊎ (find qs x ≡ Some p)
split {A} true x name a p qs is = by (same_name x name) refl is
  where
    by : (b : Bool) → same_name x name ≡ b → (if b then Some a else find qs x) ≡ Some p → ((a ≡ p) × (same_name x name ≡ true)) ⊎ (find qs x ≡ Some p)
    by true same is = inl (some_same a p is, same)
    by false same is = inr is
split false x name a p qs is = inr is

-- ---- within

within_after : (o h w v l m : ℕ) (p : Spot) → Within (o + w) (o + w + l) (h + v) (h + v + m) p → Within o (o + (w + l)) h (h + (v + m)) p
within_after o h w v l m p r = record {
  own = λ is. let a = r.own is in (omega (arith, a.0), omega (arith, a.1));
  other = λ is. let a = r.other is in (omega (arith, a.0), omega (arith, a.1));
}

head_by : (o h : ℕ) (s : Sort) (l m : ℕ) (b : Bool)
    → Within o (o + ((if b then item_words s else 0) + l)) h (h + ((if b then 0 else item_words s) + m)) (record { own = b; word = if b then o else h; sort = s })
head_by o h s l m true = record { own = λ is. (omega arith, omega arith); other = λ is. cc }
head_by o h s l m false = record { own = λ is. cc; other = λ is. (omega arith, omega arith) }

-- The words of an item are among those of its list.
pub within : (o h : ℕ) (t : Table Sort) (x : List ℕ) (p : Spot) → find (spots_from o h t) x ≡ Some p
    → Within o (o + list_words true t) h (h + list_words false t) p
within o h [] x p is = cc
within o h (e ∷ t) x p is =
    let w = where_own true item_words e.1 in
    let v = where_own false item_words e.1 in
    let l = list_words true t in
    let m = list_words false t in
    elim (split (nat_lt 0 (item_words e.1)) x e.0 (spot o h e.1) p (spots_from (o + w) (h + v) t) is)
    as (λ _. Within o (o + (w + l)) h (h + (v + m)) p) [
      | inl found ↦ subst (λ (q : Spot). Within o (o + (w + l)) h (h + (v + m)) q) found.0 (head_by o h e.1 l m (is_own e.1))
      | inr found ↦ within_after o h w v l m p (within (o + w) (h + v) t x p found)
    ]

-- ---- apart

head_apart : (o h oe he : ℕ) (s : Sort) (q : Spot) (b : Bool) → Within (o + (if b then item_words s else 0)) oe (h + (if b then 0 else item_words s)) he q → b ≡ q.own
    → (if b then o else h) + item_words s ≤ q.word
head_apart o h oe he s q true r is = let a = r.own (sym is) in omega (arith, a.0)
head_apart o h oe he s q false r is = let a = r.other (sym is) in omega (arith, a.0)

first_apart : (o h oe he : ℕ) (s : Sort) (p q : Spot) → Within (o + where_own true item_words s) oe (h + where_own false item_words s) he q → spot o h s ≡ p → p.own ≡ q.own
    → p.word + item_words p.sort ≤ q.word
first_apart o h oe he s p q r is own =
    subst (λ (a : Spot). a.word + item_words a.sort ≤ q.word) is (head_apart o h oe he s q (is_own s) r (ap (λ (a : Spot). a.own) is ∙ own))

not_both : (x y name : List ℕ) → same_name x y ≡ false → same_name x name ≡ true → same_name y name ≡ true → ⊥
not_both x y name apart xs ys = let same = ap (same_name x) (same_text y name (sym ys)) in cc

-- Two items of one list have no word in common, where both are OWN or neither is.
pub apart : (o h : ℕ) (t : Table Sort) (x y : List ℕ) (p q : Spot) → same_name x y ≡ false → p.own ≡ q.own → find (spots_from o h t) x ≡ Some p → find (spots_from o h t) y ≡ Some q
    → Apart p q
apart o h [] x y p q differ own px qy = cc
apart o h (e ∷ t) x y p q differ own px qy =
    let w = where_own true item_words e.1 in
    let v = where_own false item_words e.1 in
    let rest = spots_from (o + w) (h + v) t in
    let there = nat_lt 0 (item_words e.1) in
    elim (split there x e.0 (spot o h e.1) p rest px) as (λ _. Apart p q) [
      | inl fx ↦ elim (split there y e.0 (spot o h e.1) q rest qy) as (λ _. Apart p q) [
        | inl fy ↦ absurd (not_both x y e.0 differ fx.1 fy.1)
        | inr fy ↦ inl (first_apart o h _ _ e.1 p q (within (o + w) (h + v) t y q fy) fx.0 own)
      ]
      | inr fx ↦ elim (split there y e.0 (spot o h e.1) q rest qy) as (λ _. Apart p q) [
        | inl fy ↦ inr (first_apart o h _ _ e.1 q p (within (o + w) (h + v) t x p fx) fy.0 (sym own))
        | inr fy ↦ apart (o + w) (h + v) t x y p q differ own fx fy
      ]
    ]
