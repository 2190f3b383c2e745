-- Walks over lists, element by element.
use Rattle.std.proofs.Common.{◌≡◌, ◌<◌, ◌≤◌, ℕ, ◌+◌, suc, List, [], ◌∷◌, map, drop, length, get_or, ap, sym, ◌∙◌, refl, add-one}
use Rattle.std.proofs.Math.Seq.{drop-cons}
use Rattle.std.proofs.lemmas.List.{drop_all}

-- a walk from one of a list's elements on
pub onward : {X Y Z : Type 0} (view : X → Y) (walk : List Y → Z) (xs : List X) (i : ℕ) (x : X) → i < length xs → x ≡ get_or xs i x
    → walk (map view (drop i xs)) ≡ walk (view x ∷ map view (drop (i + 1) xs))
onward view walk xs i x lt is =
    ap (λ ys. walk (map view ys)) (drop-cons xs i x lt ∙ ap (λ y. y ∷ drop (suc i) xs) (sym is)) ∙ rw (add-one i) refl

-- and from its end on
pub onward_end : {X Y Z : Type 0} (view : X → Y) (walk : List Y → Z) (xs : List X) (i : ℕ) → length xs ≤ i
    → walk (map view (drop i xs)) ≡ walk []
onward_end view walk xs i le = ap (λ ys. walk (map view ys)) (drop_all i xs le)
