-- Names with a number each; a name that is there keeps its first.
use Rattle.std.specs.Prelude.{ℕ, nat_eq, if◌then◌else◌, List, [], ◌∷◌, ◌++◌, Option, Some, None, is_some}
use Rattle.std.specs.Cmp.Lexicographic.{pointwise}

-- the number of a name
abbrev pub place_of : List ℕ → List (List ℕ × ℕ) → Option ℕ
place_of name [] = None
place_of name (e ∷ es) = if pointwise nat_eq name e.0 then Some e.1 else place_of name es

-- the names with one more, unless it is there
abbrev pub with_place : List (List ℕ × ℕ) → List ℕ → ℕ → List (List ℕ × ℕ)
with_place es name k = if is_some (place_of name es) then es else es ++ (name, k) ∷ []
