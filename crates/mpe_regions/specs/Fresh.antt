-- A table of free nodes.
use Rattle.std.specs.Prelude.{◌≡◌, ℕ, zero, suc, false, List, [], ◌∷◌, length}
use Rattle.mpe_links.specs.declared.node.Node.{Node}
use Rattle.mpe_links.specs.Nodes.{node_at}
use Rattle.mpe_links.specs.Rings.{AreFree}

-- the numbers below n, the greatest first
abbrev pub below : ℕ → List ℕ
below zero = []
below (suc n) = n ∷ below n

-- so many nodes, all free
pub record IsFresh (nodes : List Node) (free n : ℕ) : Type 0 where
  pub long : length nodes ≡ n
  pub chain : AreFree nodes free (below n)
  pub dead : (k : ℕ) → (node_at nodes k).live ≡ false
