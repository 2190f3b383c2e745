-- Searches along the links to the right, over as many nodes as there are.
use Rattle.std.specs.Prelude.{ℕ, zero, suc, ◌+◌, ◌==◌, nat_lt, nat_le, if◌then◌else◌, List, length, Option, None, Some}
use Rattle.mpe_links.specs.declared.node.Node.{Node}
use Rattle.mpe_links.specs.Nodes.{node_at}
use Rattle.mpe_regions.specs.declared.searches.Hole.{Hole}

-- the first node from `at` on that has a key
abbrev pub sought : List Node → ℕ → ℕ → ℕ → Option ℕ
sought nodes key zero at = None
sought nodes key (suc n) at =
    if nat_lt at (length nodes) then (if (node_at nodes at).key == key then Some at else sought nodes key n (node_at nodes at).right) else None

-- a hole from a place on, behind a node, if so many words fit below an end
abbrev pub last_hole : ℕ → ℕ → ℕ → ℕ → Option Hole
last_hole end want from before = if nat_le (from + want) end then Some (record { place = from; before = before }) else None

-- the first hole from `at` on: before that node, or between or behind those that follow
abbrev pub hole_sought : List Node → ℕ → ℕ → ℕ → ℕ → ℕ → ℕ → Option Hole
hole_sought nodes end want zero from before at = last_hole end want from before
hole_sought nodes end want (suc n) from before at =
    if nat_lt at (length nodes) then
    (if nat_le (from + want) (node_at nodes at).place then Some (record { place = from; before = before })
    else hole_sought nodes end want n ((node_at nodes at).place + (node_at nodes at).size) at (node_at nodes at).right)
    else last_hole end want from before
