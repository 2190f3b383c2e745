-- Walks along lists from one of their elements on, and lists with one element more.
use Rattle.std.proofs.Common.{◌≡◌, ◌<◌, ◌≤◌, ◌⊎◌, inl, inr, ℕ, zero, suc, ◌+◌, List, [], ◌∷◌, ◌++◌, map, drop, length, get_or, Some, refl, sym, ap, ◌∙◌, add-one}
use Rattle.std.proofs.Math.Seq.{drop-cons}
use Rattle.std.proofs.lemmas.List.{drop_all}
use Rattle.std.specs.List.{slice_get}
use Rattle.std.proofs.lemmas.Option.{none-some, same_Some}

-- ---- what elements give, from one of them on

-- a walk from one of a list's elements on
pub onward : {X Y Z : Type 0} (view : X → Y) (walk : List Y → Z) (xs : List X) (i : ℕ) (x : X) → i < length xs → x ≡ get_or xs i x
    → walk (map view (drop i xs)) ≡ walk (view x ∷ map view (drop (i + 1) xs))
onward view walk xs i x lt is =
    ap (λ ys. walk (map view ys)) (drop-cons xs i x lt ∙ ap (λ y. y ∷ drop (suc i) xs) (sym is)) ∙ rw (add-one i) refl

-- and from its end on
pub onward_end : {X Y Z : Type 0} (view : X → Y) (walk : List Y → Z) (xs : List X) (i : ℕ) → length xs ≤ i
    → walk (map view (drop i xs)) ≡ walk []
onward_end view walk xs i le = ap (λ ys. walk (map view ys)) (drop_all i xs le)

-- ---- one element more by its number

-- an element is an old one, or the last
pub pushed_cases : {A : Type 0} (xs : List A) (x : A) (g : ℕ) (y : A) → slice_get (xs ++ x ∷ []) g ≡ Some y
    → (slice_get xs g ≡ Some y) ⊎ ((g ≡ length xs) × (x ≡ y))
pushed_cases [] x zero y e = inr (refl, same_Some x y e)
pushed_cases [] x (suc g) y e = absurd (none-some y e)
pushed_cases (z ∷ xs) x zero y e = inl e
pushed_cases {A} (z ∷ xs) x (suc g) y e = by (pushed_cases xs x g y e)
  where
    by : (slice_get xs g ≡ Some y) ⊎ ((g ≡ length xs) × (x ≡ y)) → (slice_get xs g ≡ Some y) ⊎ ((suc g ≡ suc (length xs)) × (x ≡ y))
    by (inl h) = inl h
    by (inr h) = inr (ap suc h.0, h.1)

-- the old ones stay
pub old_stays : {A : Type 0} (xs : List A) (x : A) (g : ℕ) (y : A) → slice_get xs g ≡ Some y → slice_get (xs ++ x ∷ []) g ≡ Some y
old_stays [] x g y e = absurd (none-some y e)
old_stays (z ∷ xs) x zero y e = e
old_stays (z ∷ xs) x (suc g) y e = old_stays xs x g y e

-- the last is there
pub last_there : {A : Type 0} (xs : List A) (x : A) → slice_get (xs ++ x ∷ []) (length xs) ≡ Some x
last_there [] x = refl
last_there (z ∷ xs) x = last_there xs x

-- and there is one more
pub one_longer : {A : Type 0} (xs : List A) (x : A) → length (xs ++ x ∷ []) ≡ suc (length xs)
one_longer [] x = refl
one_longer (z ∷ xs) x = ap suc (one_longer xs x)
