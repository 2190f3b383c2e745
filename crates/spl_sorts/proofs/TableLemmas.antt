-- A look-up in a list of declarations is one in the list that the meaning of sources has.
use Rattle.std.proofs.Common.{◌≡◌, ℕ, Bool, true, false, cond, nat_eq, List, [], ◌∷◌, map, Option, Some, None, refl, ◌∙◌, ap, is_some}
use Rattle.std.specs.Prelude.{option_map}
use Rattle.std.specs.Option.{option_copied}
use Rattle.std.specs.Borrow.{Bor}
use Rattle.std.specs.Map.{lookup}
use lib.Pointwise.{pointwise}
use Rattle.arrayvec.specs.ArrayVec.{ArrayVec}
use Rattle.spl_meaning.specs.Names as n
use Rattle.spl_sorts.specs.declared.sorts.Sort.{Sort}
use Rattle.spl_sorts.specs.Sorts.{sort_of}
use Rattle.spl_sorts.specs.Tables.{entry_of}

pub lookup_find : (es : List (ArrayVec ℕ × Sort)) (x : ArrayVec ℕ)
    → option_map sort_of (lookup (λ k. pointwise nat_eq x.items k.items) es) ≡ n.find (map entry_of es) x.items
lookup_find [] x = refl
lookup_find (e ∷ es) x = by (pointwise nat_eq x.items e.0.items) (lookup_find es x)
  where
    by : (b : Bool) → option_map sort_of (lookup (λ k. pointwise nat_eq x.items k.items) es) ≡ n.find (map entry_of es) x.items
        → option_map sort_of (cond b (Some e.1) (lookup (λ k. pointwise nat_eq x.items k.items) es)) ≡ cond b (Some (sort_of e.1)) (n.find (map entry_of es) x.items)
    by true h = refl
    by false h = h

-- behind a reference
pub copied_sort : (o : Option (Bor Sort)) → option_map (λ s. sort_of s.now) o ≡ option_map sort_of (option_copied o)
copied_sort None = refl
copied_sort (Some v) = refl

-- a sort is there where one of the list is
pub there : {A B : Type 0} (f : A → B) (o : Option A) → is_some o ≡ is_some (option_map f o)
there f None = refl
there f (Some a) = refl

-- nothing stands for a name that is not declared
pub absent : {A B : Type 0} (f : A → B) (o : Option A) → is_some (option_map f o) ≡ false → o ≡ None
absent f None h = refl
absent f (Some a) h = cc
