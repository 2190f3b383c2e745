-- A name in the set of names, and its number, are those of the list of names.
use Rattle.std.proofs.Common.{◌≡◌, ℕ, ◌+◌, Bool, true, false, cond, nat_eq, List, [], ◌∷◌, ◌++◌, map, refl, sym, ap, ◌∙◌, arith}
use Rattle.std.specs.Prelude.{◌||◌, not, if◌then◌else◌}
use Rattle.std.specs.List.{list_any, position_or_len}
use Rattle.std.proofs.lemmas.List.{map_push}
use Rattle.std.proofs.lemmas.Bool.{eq-eqb}
use Rattle.std.specs.Cmp.Lexicographic.{pointwise}
use Rattle.arrayvec.specs.ArrayVec.{ArrayVec}
use Rattle.indexmap.specs.IndexSet.{insert_key}
use Rattle.spl_branch.specs.declared.modules.Module.{Module}
use Rattle.mpe_segmenter.specs.Names.{segment_of, is_among, with_name, names_from, number_of}

-- names are equal by their letters
abbrev pub same : ArrayVec ℕ → ArrayVec ℕ → Bool
same j k = pointwise nat_eq j.items k.items

-- the letters of names
abbrev pub texts : List (ArrayVec ℕ) → List (List ℕ)
texts ks = map (λ n. n.items) ks

pub any_has : (ks : List (ArrayVec ℕ)) (k : ArrayVec ℕ) → list_any (same k) ks ≡ is_among k.items (texts ks)
any_has [] k = refl
any_has (j ∷ ks) k = ap (λ (b : Bool). same k j || b) (any_has ks k)

pub insert_with : (ks : List (ArrayVec ℕ)) (k : ArrayVec ℕ) → texts (insert_key same ks k) ≡ with_name (texts ks) k.items
insert_with ks k = by (list_any (same k) ks) (is_among k.items (texts ks)) (any_has ks k) where
  by : (a b : Bool) → a ≡ b → texts (if a then ks else ks ++ k ∷ []) ≡ (if b then texts ks else texts ks ++ k.items ∷ [])
  by true true e = refl
  by false false e = map_push (λ (n : ArrayVec ℕ). n.items) ks k
  by true false e = cc
  by false true e = cc

place_is : (ks : List (ArrayVec ℕ)) (k : ArrayVec ℕ) → position_or_len (same k) ks ≡ number_of (texts ks) k.items
place_is [] k = refl
place_is (j ∷ ks) k = by (same k j) (place_is ks k) where
  by : (b : Bool) → position_or_len (same k) ks ≡ number_of (texts ks) k.items → cond (not b) (1 + position_or_len (same k) ks) 0 ≡ (if b then 0 else number_of (texts ks) k.items + 1)
  by true e = refl
  by false e = omega (arith, e)

pub same_self : (n : List ℕ) → pointwise nat_eq n n ≡ true
same_self [] = refl
same_self (b ∷ n) = rw (eq-eqb b b refl) (same_self n)

-- a name that is new has the number behind all
pub new_number : (ns : List (List ℕ)) (n : List ℕ) → is_among n ns ≡ false → number_of (ns ++ n ∷ []) n ≡ number_of ns n
new_number [] n h = rw (same_self n) refl
new_number (m ∷ ns) n h = by (pointwise nat_eq n m) h (λ k. new_number ns n k) where
  by : (b : Bool) → (b || is_among n ns) ≡ false → (is_among n ns ≡ false → number_of (ns ++ n ∷ []) n ≡ number_of ns n) → (if b then 0 else number_of (ns ++ n ∷ []) n + 1) ≡ (if b then 0 else number_of ns n + 1)
  by true h k = refl
  by false h k = ap (λ (i : ℕ). i + 1) (k h)

-- the number under which a name was put there
pub insert_number : (ks : List (ArrayVec ℕ)) (k : ArrayVec ℕ) → position_or_len (same k) ks ≡ number_of (with_name (texts ks) k.items) k.items
insert_number ks k = place_is ks k ∙ by (is_among k.items (texts ks)) refl where
  by : (b : Bool) → is_among k.items (texts ks) ≡ b → number_of (texts ks) k.items ≡ number_of (if b then texts ks else texts ks ++ k.items ∷ []) k.items
  by true h = refl
  by false h = sym (new_number (texts ks) k.items h)

-- one module more
pub names_push : (ms : List Module) (ns : List (List ℕ)) (m : Module) → names_from ns (ms ++ m ∷ []) ≡ with_name (names_from ns ms) (segment_of m)
names_push [] ns m = refl
names_push (k ∷ ms) ns m = names_push ms (with_name ns (segment_of k)) m
