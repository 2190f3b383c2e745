-- The two rings of a table: each is a way forth and the same way back.
use Rattle.std.specs.Prelude.{ℕ, List, ◌∷◌}
use Rattle.mpe_links.specs.declared.node.Node.{Node}
use Rattle.mpe_links.specs.Lists.{Apart}
use Rattle.mpe_links.specs.Ways.{Goes, Returns}
use Rattle.mpe_links.specs.Nodes.{right_of, left_of, newer_of, older_of}

-- from the oldest to the newest the links go through these nodes, and the same way back
pub record InUse (nodes : List Node) (oldest newest : ℕ) (us : List ℕ) : Type 0 where
  pub forward : Goes (newer_of nodes oldest) 65535 us 65535
  pub backward : Returns (older_of nodes newest) 65535 us 65535
  pub apart : Apart (65535 ∷ us)

-- from the first on to the right they go through these nodes; `last` is where a head of the way back would point
pub record InPlace (nodes : List Node) (first : ℕ) (xs : List ℕ) : Type 0 where
  pub last : ℕ
  pub forward : Goes (right_of nodes first) 65535 xs 65535
  pub backward : Returns (left_of nodes last) 65535 xs 65535
  pub apart : Apart (65535 ∷ xs)

-- from the first free node on they go through these
abbrev pub AreFree : List Node → ℕ → List ℕ → Type 0
AreFree nodes free fs = Goes (right_of nodes free) 65535 fs 65535
