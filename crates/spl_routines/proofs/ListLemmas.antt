-- Elements of lists.
use Rattle.std.proofs.Common.{◌≡◌, ℕ, zero, suc, ◌+◌, Bool, true, List, [], ◌∷◌, ◌++◌, map, length, Some, refl, sym, ap, ◌∙◌, arith, zero-add}
use Rattle.std.specs.Prelude.{slice_get}
use Rattle.std.specs.List.{list_all}
use Rattle.std.proofs.lemmas.Bool.{and_parts}
use Rattle.spl_routines.specs.Among.{IsIn, at_front, behind}

-- ---- elements

pub in_left : {A : Type 0} (x : A) (xs ys : List A) → IsIn x xs → IsIn x (xs ++ ys)
in_left x [] ys k = elim k [ ]
in_left x (y ∷ xs) ys (at_front e) = at_front e
in_left x (y ∷ xs) ys (behind k) = behind (in_left x xs ys k)

pub in_right : {A : Type 0} (x : A) (xs ys : List A) → IsIn x ys → IsIn x (xs ++ ys)
in_right x [] ys k = k
in_right x (y ∷ xs) ys k = behind (in_right x xs ys k)

pub in_middle : {A : Type 0} (x : A) (xs ys : List A) → IsIn x (xs ++ x ∷ ys)
in_middle x xs ys = in_right x xs (x ∷ ys) (at_front refl)

-- it is of the one part or of the other
pub data InEither {A : Type 0} (x : A) (xs ys : List A) : Type 0 where
  left : IsIn x xs → InEither x xs ys
  right : IsIn x ys → InEither x xs ys

pub in_parts : {A : Type 0} (x : A) (xs ys : List A) → IsIn x (xs ++ ys) → InEither x xs ys
in_parts x [] ys k = right k
in_parts x (y ∷ xs) ys (at_front e) = left (at_front e)
in_parts x (y ∷ xs) ys (behind k) = by (in_parts x xs ys k) where
  by : InEither x xs ys → InEither x (y ∷ xs) ys
  by (left k) = left (behind k)
  by (right k) = right k

-- what holds of all holds of it
pub in_all : {A : Type 0} (p : A → Bool) (x : A) (xs : List A) → IsIn x xs → list_all p xs ≡ true → p x ≡ true
in_all p x [] k h = elim k [ ]
in_all p x (y ∷ xs) (at_front e) h = ap p e ∙ (and_parts (p y) (list_all p xs) h).0
in_all p x (y ∷ xs) (behind k) h = in_all p x xs k (and_parts (p y) (list_all p xs) h).1

-- an element has a place
pub place_of : {A : Type 0} (x : A) (xs : List A) → IsIn x xs → (k : ℕ) × (slice_get xs k ≡ Some x)
place_of x [] k = elim k [ ]
place_of x (y ∷ xs) (at_front e) = (0, ap (λ z. Some z) (sym e))
place_of x (y ∷ xs) (behind k) = let r = place_of x xs k in (suc r.0, r.1)

-- what stands at a place is an element
pub in_place : {A : Type 0} (x : A) (xs : List A) (k : ℕ) → slice_get xs k ≡ Some x → IsIn x xs
in_place x [] k e = cc
in_place x (y ∷ xs) zero e = let same : y ≡ x = cc in at_front (sym same)
in_place x (y ∷ xs) (suc k) e = behind (in_place x xs k e)

-- ---- places

-- at a place of two lists, one behind the other, is an element of the first, or one of the second at a place behind
pub data AtEither {A : Type 0} (x : A) (xs ys : List A) (k : ℕ) : Type 0 where
  before : slice_get xs k ≡ Some x → AtEither x xs ys k
  beyond : (j : ℕ) → k ≡ length xs + j → slice_get ys j ≡ Some x → AtEither x xs ys k

pub at_parts : {A : Type 0} (x : A) (xs ys : List A) (k : ℕ) → slice_get (xs ++ ys) k ≡ Some x → AtEither x xs ys k
at_parts x [] ys k e = beyond k (omega arith) e
at_parts x (y ∷ xs) ys zero e = before e
at_parts x (y ∷ xs) ys (suc k) e = by (at_parts x xs ys k e) where
  by : AtEither x xs ys k → AtEither x (y ∷ xs) ys (suc k)
  by (before f) = before f
  by (beyond j is f) = beyond j (omega (arith, is)) f

-- the second list's
pub at_beyond : {A : Type 0} (xs ys : List A) (j : ℕ) → slice_get (xs ++ ys) (length xs + j) ≡ slice_get ys j
at_beyond [] ys j = ap (slice_get ys) (zero-add j)
at_beyond (x ∷ xs) ys j =
    let next : suc (length xs) + j ≡ suc (length xs + j) = omega arith in
    ap (slice_get (x ∷ (xs ++ ys))) next ∙ at_beyond xs ys j

-- what a function gives of a list's element is of its own one
pub of_map : {A B : Type 0} (f : A → B) (xs : List A) (k : ℕ) (y : B) → slice_get (map f xs) k ≡ Some y → (x : A) × (slice_get xs k ≡ Some x) × (f x ≡ y)
of_map f [] k y e = cc
of_map f (x ∷ xs) zero y e = let same : f x ≡ y = cc in (x, refl, same)
of_map f (x ∷ xs) (suc k) y e = of_map f xs k y e

-- one element is at a place
pub one_there : {A : Type 0} (x y : A) → Some x ≡ Some y → x ≡ y
one_there x y e = cc
