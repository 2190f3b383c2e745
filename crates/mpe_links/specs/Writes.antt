-- What is changed of a table.
use Rattle.std.specs.Prelude.{◌≡◌, ℕ, List}
use Rattle.mpe_links.specs.declared.node.Node.{Node}
use Rattle.mpe_links.specs.Nodes.{node_at, less_right, less_left, less_newer, less_older}

-- f tells the same of each node
abbrev pub Same : (Node → Node) → List Node → List Node → Type 0
Same f old new = (k : ℕ) → f (node_at new k) ≡ f (node_at old k)

-- all but the order of use, and all but the order of place
abbrev pub less_use : Node → Node
less_use n = less_older (less_newer n)

abbrev pub less_place : Node → Node
less_place n = less_left (less_right n)

-- all but the links
abbrev pub less_links : Node → Node
less_links n = less_place (less_use n)
