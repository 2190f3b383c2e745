-- The code of one segment grows.
use Rattle.std.proofs.Common.{◌≡◌, ◌<◌, ◌≤◌, ℕ, zero, suc, Bool, true, false, nat_eq, List, [], ◌∷◌, length, get_or, set, Some, refl, sym, ap, subst, ◌∙◌, arith}
use Rattle.std.specs.Prelude.{unwrap_or}
use Rattle.std.specs.List.{slice_get}
use Rattle.std.proofs.lemmas.Bool.{eqb-true, eq-eqb}
use Rattle.std.proofs.lemmas.Option.{slice_get_within, slice_get-get_or}
use Rattle.std.proofs.lemmas.List.{length-set}
use Rattle.spl_unit_laws.specs.spl_unit_codes.declared.growing.Growing.{Growing}
use Rattle.spl_unit_laws.specs.Steps.{Grows}

-- values in a Some
pub some_inside : {A : Type 0} (x y : A) → Some x ≡ Some y → x ≡ y
some_inside x y is = ap (λ o. unwrap_or o x) is

none_there : (i : ℕ) → i < 0 → ⊥
none_there i lt = omega (arith, lt)

pub set_here : {A : Type 0} (xs : List A) (i : ℕ) (a : A) → i < length xs → slice_get (set xs i a) i ≡ Some a
set_here [] i a lt = absurd (none_there i lt)
set_here (x ∷ xs) zero a lt = refl
set_here (x ∷ xs) (suc i) a lt = set_here xs i a (omega (arith, lt))

apart : (i j : ℕ) → nat_eq (suc i) (suc j) ≡ false → nat_eq i j ≡ false
apart i j out = by (nat_eq i j) refl
  where
    by : (b : Bool) → nat_eq i j ≡ b → nat_eq i j ≡ false
    by false is = is
    by true is = is ∙ (sym (eq-eqb (suc i) (suc j) (ap suc (eqb-true i j is))) ∙ out)

pub set_there : {A : Type 0} (xs : List A) (i j : ℕ) (a : A) → nat_eq i j ≡ false → slice_get (set xs i a) j ≡ slice_get xs j
set_there [] zero j a out = refl
set_there [] (suc i) j a out = refl
set_there (x ∷ xs) zero zero a out = cc
set_there (x ∷ xs) zero (suc j) a out = refl
set_there (x ∷ xs) (suc i) zero a out = refl
set_there (x ∷ xs) (suc i) (suc j) a out = set_there xs i j a (apart i j out)

-- the one of a segment that there is
pub grown_there : (g k : ℕ) (P : Growing → Growing → Type 0) (old : List Growing) (x y : Growing) → k ≡ g → k < length old → x ≡ get_or old k x → P x y
    → Grows g P old (set old k y)
grown_there g k P old x y same lt is made = record {
  number = length-set old k y;
  there = λ z at. (
    y,
    ap (λ i. slice_get (set old k y) i) (sym same) ∙ set_here old k y lt,
    subst (λ (v : Growing). P v y) (some_inside x z (ap Some is ∙ sym (slice_get-get_or old k x lt) ∙ ap (λ i. slice_get old i) same ∙ at)) made,
  );
  others = λ h out. set_there old k h y (ap (λ i. nat_eq i h) same ∙ out);
}

-- where there is none nothing changes
pub grown_nowhere : (g k : ℕ) (P : Growing → Growing → Type 0) (old : List Growing) → k ≡ g → length old ≤ k → Grows g P old old
grown_nowhere g k P old same le = record {
  number = refl;
  there = λ z at. clash (slice_get_within old g z at);
  others = λ h out. refl;
}
  where
    both : g < length old → length old ≤ k → k ≡ g → ⊥
    both a b c = omega (arith, a, b, c)

    clash : {A : Type 0} → g < length old → A
    clash {A} lt = absurd (both lt le same)
