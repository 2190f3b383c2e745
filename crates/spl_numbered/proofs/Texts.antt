-- The segments of a text are listed once each, and its tokens stand in them.
use Rattle.std.proofs.Common.{◌≡◌, ◌≤◌, ◌<◌, ℕ, zero, suc, ◌+◌, ◌||◌, nat_eq, Bool, true, false, if◌then◌else◌, List, [], ◌∷◌, ◌++◌, map, length, Some, refl, sym, ap, subst, ◌∙◌, arith}
use Rattle.std.specs.List.{slice_get}
use Rattle.std.specs.Cmp.Lexicographic.{pointwise}
use Rattle.std.proofs.lemmas.Bool.{lt-ltb, or_parts, or_from, eq-eqb, eqb-true, and_from, and_parts}
use Rattle.spl_bounds.specs.spl_cuts.Signs.{stop, Found, Placed, Listed}
use Rattle.spl_bounds.specs.spl_cuts.Cutting.{has_name, with_name, with_names, CutsWithin}
use Rattle.spl_bounds.specs.spl_cuts.Cutting as cu
use Rattle.spl_bounds.specs.spl_cuts.Lexemes.{lexeme, lexemes}
use Rattle.spl_bounds.specs.spl_cuts.Whole.{Ends}
use Rattle.spl_bounds.specs.spl_cuts.Whole as w
use Rattle.spl_bounds.proofs.spl_cuts_proofs.WholeLemmas.{cut_whole}
use Rattle.spl_bounds.specs.spl_tree.DeclarationTrees.{declarations}
use Rattle.spl_bounds.specs.spl_grammar.Verdicts.{spelled}
use Rattle.spl_bounds.specs.spl_meaning.Tables.{Routine, routines_of}
use Rattle.spl_bounds.specs.spl_places.Programs.{Each}
use Rattle.spl_numbered.proofs.Beyond.{out, beyond, all_out}
use Rattle.spl_numbered.specs.Laws.{TextsNumberSegments}
use Rattle.spl_numbered.proofs.Units.{unit_eats, main_in, routines_in}

-- ---- tokens

none_out : (top g : ℕ) → g < top → out top g ≡ 0
none_out top g lt = ap (λ (b : Bool). if b then 0 else 1) (lt-ltb g top lt)

sum_none : (a b : ℕ) → a ≡ 0 → b ≡ 0 → a + b ≡ 0
sum_none a b x y = omega (arith, x, y)

none_beyond : (one top : ℕ) (ts : List Placed) → Ends one top ts → beyond top (map lexeme ts) ≡ 0
none_beyond one top _ (w.Ends.last {t = t} what is) = sum_none (out top t.segment) 0 (none_out top t.segment is.segment) refl
none_beyond one top _ (w.Ends.before {t = t} {ts = ts} what is rest) =
    sum_none (out top t.segment) (beyond top (map lexeme ts)) (none_out top t.segment is.segment) (none_beyond one top ts rest)

-- ---- names

same_self : (x : List ℕ) → pointwise nat_eq x x ≡ true
same_self [] = refl
same_self (a ∷ x) = and_from (nat_eq a a) (pointwise nat_eq x x) (eq-eqb a a refl) (same_self x)

same_letters : (x y : List ℕ) → pointwise nat_eq x y ≡ true → x ≡ y
same_letters [] [] is = refl
same_letters [] (b ∷ y) is = cc
same_letters (a ∷ x) [] is = cc
same_letters (a ∷ x) (b ∷ y) is = let parts = and_parts (nat_eq a b) (pointwise nat_eq x y) is in (λ i. eqb-true a b parts.0 i ∷ same_letters x y parts.1 i)

turned : (x y : List ℕ) → pointwise nat_eq x y ≡ false → pointwise nat_eq y x ≡ false
turned x y h = by (pointwise nat_eq y x) refl
  where
    clash : {A : Type 0} → true ≡ false → A
    clash e = cc

    by : (b : Bool) → pointwise nat_eq y x ≡ b → b ≡ false
    by false e = refl
    by true e = clash (sym (same_self x) ∙ ap (λ z. pointwise nat_eq x z) (sym (same_letters y x e)) ∙ h)

-- each stands once
Once : List (List ℕ) → Type 0
Once [] = Unit {0}
Once (n ∷ ns) = (has_name ns n ≡ false) × Once ns

has_not_push : (ns : List (List ℕ)) (k n : List ℕ) → has_name ns k ≡ false → pointwise nat_eq k n ≡ false → has_name (ns ++ n ∷ []) k ≡ false
has_not_push [] k n h e = or_from (pointwise nat_eq k n) false e refl
has_not_push (m ∷ ns) k n h e =
    let both = or_parts (pointwise nat_eq k m) (has_name ns k) h in or_from (pointwise nat_eq k m) (has_name (ns ++ n ∷ []) k) both.0 (has_not_push ns k n both.1 e)

once_push : (ns : List (List ℕ)) (n : List ℕ) → Once ns → has_name ns n ≡ false → Once (ns ++ n ∷ [])
unfolding Once
once_push [] n d h = (refl, tt)
once_push (m ∷ ns) n d h =
    let both = or_parts (pointwise nat_eq n m) (has_name ns n) h in
    (has_not_push ns m n d.0 (turned n m both.0), once_push ns n d.1 both.1)

once_with : (ns : List (List ℕ)) (n : List ℕ) → Once ns → Once (with_name ns n)
once_with ns n d = by (has_name ns n) refl
  where
    by : (b : Bool) → has_name ns n ≡ b → Once (if b then ns else ns ++ n ∷ [])
    by true h = d
    by false h = once_push ns n d h

once_all : (ns : List (List ℕ)) (ts : List Found) → Once ns → Once (with_names ns ts)
once_all ns [] d = d
once_all ns (t ∷ ts) d = once_all (with_name ns t.segment) ts (once_with ns t.segment d)

has_there : (ns : List (List ℕ)) (i : ℕ) (x : List ℕ) → slice_get ns i ≡ Some x → has_name ns x ≡ true
has_there [] i x is = cc
has_there (n ∷ ns) zero x is = let same : n ≡ x = cc in ap (λ (b : Bool). b || has_name ns x) (ap (λ z. pointwise nat_eq x z) same ∙ same_self x)
has_there (n ∷ ns) (suc i) x is = by (pointwise nat_eq x n) (has_there ns i x is)
  where
    by : (b : Bool) → has_name ns x ≡ true → (b || has_name ns x) ≡ true
    by true h = refl
    by false h = h

-- so a name has one number
one_number : (ns : List (List ℕ)) (i j : ℕ) (x : List ℕ) → Once ns → slice_get ns i ≡ Some x → slice_get ns j ≡ Some x → i ≡ j
unfolding Once
one_number [] i j x d a b = cc
one_number (n ∷ ns) zero zero x d a b = refl
one_number (n ∷ ns) zero (suc j) x d a b = let same : n ≡ x = cc in clash (sym (has_there ns j x b) ∙ ap (has_name ns) (sym same) ∙ d.0)
  where
    clash : {A : Type 0} → true ≡ false → A
    clash e = cc
one_number (n ∷ ns) (suc i) zero x d a b = let same : n ≡ x = cc in clash (sym (has_there ns i x a) ∙ ap (has_name ns) (sym same) ∙ d.0)
  where
    clash : {A : Type 0} → true ≡ false → A
    clash e = cc
one_number (n ∷ ns) (suc i) (suc j) x d a b = ap suc (one_number ns i j x d.1 a b)

-- ---- a unit

listed_once : (n limit : ℕ) (text : List ℕ) (x : Listed) → CutsWithin n limit text x → Once x.segments
unfolding Once
listed_once n limit text x c =
    subst (λ (y : Listed). Once y.segments) (sym c.cuts.is) (once_all [] (c.cuts.state.found ++ cu.here c.cuts.there stop ∷ []) nothing)
  where
    nothing : Once []
    nothing = tt

none_more : (a b : ℕ) → a ≤ b → b ≡ 0 → a ≡ 0
none_more a b le is = omega (arith, le, is)

pub texts_number : TextsNumberSegments
texts_number n limit text x u c segments (spelled of calm) =
    let top : ℕ = length x.segments in
    let whole = cut_whole n limit text x c in
    let none = none_beyond n top x.tokens whole.ends in
    let eaten = unit_eats top of in
    let routines = routines_in top [] 0 (declarations u.tree.items) (none_more (all_out top (declarations u.tree.items)) (beyond top (lexemes x)) eaten.0 none) in
    let main = main_in top u.tree.segment (beyond top (lexemes x)) eaten.1 none in
    let same : top ≡ length u.segments = ap length (sym segments) in
    record {
      once = λ i j y a b. one_number x.segments i j y (listed_once n limit text x c) (ap (λ (ns : List (List ℕ)). slice_get ns i) (sym segments) ∙ a)
          (ap (λ (ns : List (List ℕ)). slice_get ns j) (sym segments) ∙ b);
      routines = subst (λ (k : ℕ). Each (λ (r : Routine). r.heading.segment < k) (routines_of u)) same routines;
      main = λ e. subst (λ (k : ℕ). u.tree.segment < k) same main;
    }
