-- An element of a list.
use Rattle.std.specs.Prelude.{List, ◌∷◌, ◌≡◌}

pub data IsIn {A : Type 0} (x : A) : List A → Type 0 where
  at_front : {y : A} {xs : List A} → x ≡ y → IsIn x (y ∷ xs)
  behind : {y : A} {xs : List A} → IsIn x xs → IsIn x (y ∷ xs)
