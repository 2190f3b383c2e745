-- The linked form of the table: the two lists of the area are two walks along links, and the other nodes are free.
use Rattle.std.specs.Prelude.{◌≡◌, ℕ, zero, suc, ◌+◌, ◌<◌, ◌≤◌, ◌==◌, true, nat_lt, if◌then◌else◌, List, [], ◌∷◌, length, map, Option, None, Some}
use Rattle.mpe_links.specs.declared.node.Node.{Node}
use Rattle.mpe_links.specs.Lists.{times}
use Rattle.mpe_links.specs.Nodes.{node_at, right_of, newer_of}
use Rattle.mpe_links.specs.Rings.{InUse, InPlace, AreFree}
use Rattle.mpe_regions.specs.declared.region.Region.{Region}
use Rattle.mpe_regions.specs.declared.regions.Regions.TheInside.{Inside}
use Rattle.mpe_regions.specs.Area.{Area, times_placed}
use Rattle.mpe_regions.specs.Sound.{IsSound}
use Rattle.mpe_regions.specs.Kept.{Kept}

-- the region and the key in a node
abbrev pub region_at : List Node → ℕ → Region
region_at nodes k = record { key = (node_at nodes k).key; place = (node_at nodes k).place; size = (node_at nodes k).size }

abbrev pub key_at : List Node → ℕ → ℕ
key_at nodes k = (node_at nodes k).key

-- the nodes on a walk of at most so many steps, up to where no node follows
abbrev pub walk : (ℕ → ℕ) → ℕ → ℕ → List ℕ
walk next zero at = []
walk next (suc n) at = if at == 65535 then [] else at ∷ walk next n (next at)

-- the area that two lists of nodes stand for
abbrev pub area_by : List Node → ℕ → List ℕ → List ℕ → Area
area_by nodes size xs us = record { size = size; list = map (region_at nodes) xs; order = map (key_at nodes) us }

-- the area of a table: from the first region to the right, and from the oldest to the newest
abbrev pub area_of : Inside → Area
area_of t =
    area_by t.nodes.items t.size (walk (right_of t.nodes.items t.first) (length t.nodes.items) t.first)
    (walk (newer_of t.nodes.items t.oldest) (length t.nodes.items) t.oldest)

-- what a table stands for
abbrev pub kept_by : Inside → Kept
kept_by t = record { area = area_of t; room = length t.nodes.items }

-- both rings have the same nodes, and each node is there once, or is free
pub record IsLinked (nodes : List Node) (first oldest newest free : ℕ) (xs us fs : List ℕ) : Type 0 where
  pub placed : InPlace nodes first xs
  pub used : InUse nodes oldest newest us
  pub spare : AreFree nodes free fs
  pub same : (k : ℕ) → times k us ≡ times k xs
  pub parts : (k : ℕ) → times k xs + times k fs ≡ (if nat_lt k (length nodes) then 1 else 0)
  pub live : (k : ℕ) → (if (node_at nodes k).live then 1 else 0) ≡ times k xs
  pub count : length xs + length fs ≡ length nodes
  pub long : length us ≡ length xs

-- a table: its rings, its free nodes, and a sound area
pub record IsTable (t : Inside) : Type 0 where
  pub xs : List ℕ
  pub us : List ℕ
  pub fs : List ℕ
  pub few : length t.nodes.items ≤ 65535
  pub linked : IsLinked t.nodes.items t.first t.oldest t.newest t.free xs us fs
  pub sound : IsSound (area_by t.nodes.items t.size xs us)
  pub guesses : length t.guesses.items ≡ length t.nodes.items

-- what a search for a key rests on
pub record IsListed (nodes : List Node) (first : ℕ) (xs : List ℕ) : Type 0 where
  pub few : length nodes ≤ 65535
  pub placed : InPlace nodes first xs
  pub within : (k : ℕ) → 0 < times k xs → k < length nodes
  pub short : length xs ≤ length nodes
  pub live : (k : ℕ) → (node_at nodes k).live ≡ true → 0 < times k xs
  pub once : (key : ℕ) → times_placed key (map (region_at nodes) xs) ≤ 1

-- the first of these nodes that has a key
abbrev pub found_in : List Node → ℕ → List ℕ → Option ℕ
found_in nodes key [] = None
found_in nodes key (x ∷ xs) = if (node_at nodes x).key == key then Some x else found_in nodes key xs
