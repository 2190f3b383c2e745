-- What it means to read a whole input and to write a whole output. Bytes that are not told are `None`.
use Rattle.std.specs.Prelude.{◌≡◌, ℕ, ◌<◌, ◌≤◌, List, length, take, Option, IfSome}
use Rattle.std.specs.Io.KnownBytes.{Appends, Consumes, IsAtEnd}

-- the bytes that came are all that were left and at most `limit`, and none is left
pub record ReadsToEnd (limit : ℕ) (old new : Option (List ℕ)) (bytes : List ℕ) : Type 0 where
  pub all : IfSome old (λ were_left. bytes ≡ were_left)
  pub within : length bytes ≤ limit
  pub at_end : IsAtEnd new

-- more than `limit` bytes are left
abbrev pub IsLongerThan : ℕ → Option (List ℕ) → Type 0
IsLongerThan limit left = IfSome left (λ bytes. limit < length bytes)

-- some first bytes of what was left came, and the others are left
abbrev pub LeavesRest : Option (List ℕ) → Option (List ℕ) → Type 0
LeavesRest old new = (came : List ℕ) × Consumes old new came

-- some first bytes of `bytes` were written, and no others
abbrev pub AppendsPrefix : Option (List ℕ) → Option (List ℕ) → List ℕ → Type 0
AppendsPrefix old new bytes = (count : ℕ) × Appends old new (take count bytes)
