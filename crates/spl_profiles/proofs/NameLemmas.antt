-- Names in sets and in tables.
use Rattle.std.proofs.Common.{◌≡◌, ℕ, Bool, true, false, cond, ◌||◌, nat_eq, List, [], ◌∷◌, ◌++◌, map, Some, refl, sym, ap, ◌∙◌}
use Rattle.std.specs.Prelude.{if◌then◌else◌}
use Rattle.std.specs.List.{list_any}
use Rattle.std.specs.Map.{lookup}
use Rattle.std.specs.Cmp.Lexicographic.{same_text}
use Rattle.std.proofs.lemmas.List.Folds.{list_any-append}
use lib.Pointwise.{pointwise}
use Rattle.arrayvec.specs.ArrayVec.{ArrayVec}
use Rattle.indexmap.specs.IndexSet.{insert_key}
use Rattle.spl_sorts.specs.spl_meaning.Names.{find, same_name}
use Rattle.spl_profiles.specs.declared.listings.Listed.{Listed}
use Rattle.spl_profiles.specs.Listings.{entry_of}

-- names are equal as their letters are
abbrev pub equal_names : ArrayVec ℕ → ArrayVec ℕ → Bool
equal_names j k = same_name j.items k.items

-- whether a name is among some
abbrev pub among : List (ArrayVec ℕ) → List ℕ → Bool
among ks x = list_any (λ k. same_name x k.items) ks

-- a name in a set with one more
has_more : (ks : List (ArrayVec ℕ)) (n : ArrayVec ℕ) (y : List ℕ)
    → among (insert_key equal_names ks n) y ≡ (if same_name y n.items then true else among ks y)
has_more ks n y = by (among ks n.items) refl (same_name y n.items) refl
  where
    turned : (a b : Bool) → (a || (b || false)) ≡ (if b then true else a)
    turned true true = refl
    turned true false = refl
    turned false true = refl
    turned false false = refl

    by : (b : Bool) → among ks n.items ≡ b → (s : Bool) → same_name y n.items ≡ s
        → among (if b then ks else ks ++ n ∷ []) y ≡ (if s then true else among ks y)
    by true there true same = ap (among ks) (same_text y n.items (sym same)) ∙ there
    by true there false same = refl
    by false there s same = list_any-append (λ k. same_name y k.items) ks (n ∷ []) ∙ ap (λ (b : Bool). among ks y || (b || false)) same ∙ turned (among ks y) s

pub has_added : (ks : List (ArrayVec ℕ)) (n : ArrayVec ℕ)
    → among (insert_key equal_names ks n) ≡ (λ y. if same_name y n.items then true else among ks y)
has_added ks n i y = has_more ks n y i

-- a look-up among what lists of kinds say
pub listed_found : (es : List (ArrayVec ℕ × Listed)) (x : List ℕ) → lookup (λ k. pointwise nat_eq x k.items) es ≡ find (map entry_of es) x
listed_found [] x = refl
listed_found (e ∷ es) x = ap (cond (same_name x e.0.items) (Some e.1)) (listed_found es x)
