-- The links of nodes. The heads of a list stand where a node 65535 would have its links.
use Rattle.std.specs.Prelude.{ℕ, ◌==◌, ◌<◌, ◌≢◌, false, if◌then◌else◌, List, slice_index_or}
use Rattle.mpe_links.specs.declared.node.Node.{Node}

-- what stands past the end of a table
abbrev pub blank : Node
blank = record { key = 0; place = 0; size = 0; left = 0; right = 0; older = 0; newer = 0; live = false }

unfoldable pub node_at : List Node → ℕ → Node
node_at nodes k = slice_index_or nodes k blank

-- the four links
abbrev pub right_of : List Node → ℕ → ℕ → ℕ
right_of nodes first k = if k == 65535 then first else (node_at nodes k).right

abbrev pub left_of : List Node → ℕ → ℕ → ℕ
left_of nodes last k = if k == 65535 then last else (node_at nodes k).left

abbrev pub newer_of : List Node → ℕ → ℕ → ℕ
newer_of nodes oldest k = if k == 65535 then oldest else (node_at nodes k).newer

abbrev pub older_of : List Node → ℕ → ℕ → ℕ
older_of nodes newest k = if k == 65535 then newest else (node_at nodes k).older

-- a link: no node, or one of so many
abbrev pub IsLink : ℕ → ℕ → Type 0
IsLink count k = k ≢ 65535 → k < count

-- a node without one of its links
abbrev pub less_right : Node → Node
less_right n = record n { right = 0 }

abbrev pub less_left : Node → Node
less_left n = record n { left = 0 }

abbrev pub less_newer : Node → Node
less_newer n = record n { newer = 0 }

abbrev pub less_older : Node → Node
less_older n = record n { older = 0 }
