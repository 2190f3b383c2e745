-- A way along links, forth and back.
use Rattle.std.specs.Prelude.{◌≡◌, ◌≢◌, ℕ, List, [], ◌∷◌}

-- from p the links go through these nodes, and from the last of them to e
abbrev pub Goes : (ℕ → ℕ) → ℕ → List ℕ → ℕ → Type 0
Goes next p [] e = next p ≡ e
Goes next p (x ∷ xs) e = (next p ≡ x) × Goes next x xs e

-- from e the links go back through these nodes, and from the first of them to p
abbrev pub Returns : (ℕ → ℕ) → ℕ → List ℕ → ℕ → Type 0
Returns back p [] e = back e ≡ p
Returns back p (x ∷ xs) e = (back x ≡ p) × Returns back x xs e

-- one link is written, and the others stay
pub record Writes (old new : ℕ → ℕ) (at to : ℕ) : Type 0 where
  pub there : new at ≡ to
  pub others : (k : ℕ) → k ≢ at → new k ≡ old k
