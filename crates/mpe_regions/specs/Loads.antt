-- What changes an area: a load takes the lowest hole, or gives up what was used longest ago until there is one.
use Rattle.std.specs.Prelude.{ℕ, ◌+◌, ◌==◌, nat_lt, nat_le, not, List, [], ◌∷◌, ◌++◌, filter, Option, None, Some, if◌then◌else◌}
use Rattle.mpe_regions.specs.declared.region.Region.{Region}
use Rattle.mpe_regions.specs.Area.{Area, is_live}

-- the lowest place from `from` on at which `want` words fit below `end`, before, between or behind these regions
abbrev pub hole_from : ℕ → ℕ → ℕ → List Region → Option ℕ
hole_from end want from [] = if nat_le (from + want) end then Some from else None
hole_from end want from (r ∷ rs) = if nat_le (from + want) r.place then Some from else hole_from end want (r.place + r.size) rs

-- the place of the lowest hole of an area that is large enough; none where no hole is
abbrev pub hole : Area → ℕ → Option ℕ
hole a want = hole_from a.size want 0 a.list

-- a region is put before the first that lies higher
abbrev pub placed : Region → List Region → List Region
placed x [] = x ∷ []
placed x (r ∷ rs) = if nat_lt x.place r.place then x ∷ r ∷ rs else r ∷ placed x rs

-- the regions of other keys
abbrev pub without : ℕ → List Region → List Region
without key list = filter (λ r. not (r.key == key)) list

-- the other keys of an order of use
abbrev pub forgotten : ℕ → List ℕ → List ℕ
forgotten key order = filter (λ k. not (k == key)) order

-- a key gets `size` words at a place, and is the one used last
abbrev pub put : ℕ → ℕ → ℕ → Area → Area
put key size at a = record a { list = placed (record { key = key; place = at; size = size }) a.list; order = a.order ++ key ∷ [] }

-- a key is dropped: its region and its use are gone
abbrev pub dropped : ℕ → Area → Area
dropped key a = record a { list = without key a.list; order = forgotten key a.order }

-- a key is used: it goes to the end of the order of use
abbrev pub used : ℕ → Area → Area
used key a = record a { order = forgotten key a.order ++ key ∷ [] }

-- a key is used where it is live
abbrev pub touched : ℕ → Area → Area
touched key a = if is_live key a then used key a else a

-- a key is put where there is a hole
abbrev pub put_if : ℕ → ℕ → Option ℕ → Area → Area
put_if key size None a = a
put_if key size (Some at) a = put key size at a

-- what a load leaves: the area, the place of what was loaded, and how many segments were given up
pub record Load : Type 0 where
  pub area : Area
  pub place : Option ℕ
  pub given_up : ℕ

-- a load into an area after n more segments were given up
abbrev pub after_more : ℕ → Load → Load
after_more n l = record l { given_up = n + l.given_up }

-- a hole is taken; without one it is the other load
abbrev pub fill : ℕ → ℕ → Area → Option ℕ → Load → Load
fill key size a None other = other
fill key size a (Some at) other = record { area = put key size at a; place = Some at; given_up = 0 }

-- a load that may give up these keys, the first of them first
abbrev pub load_by : ℕ → ℕ → List ℕ → Area → Load
load_by key size [] a = fill key size a (hole a size) (record { area = a; place = None; given_up = 0 })
load_by key size (k ∷ ks) a = fill key size a (hole a size) (after_more 1 (load_by key size ks (dropped k a)))

-- a load takes the lowest hole that is large enough; without one the first key of the order of use is dropped, and
-- again
abbrev pub load : ℕ → ℕ → Area → Load
load key size a = load_by key size a.order a

-- a segment is needed: it is loaded where it is not live, and is then the one used last
abbrev pub needed : ℕ → ℕ → Area → Area
needed key size a = if is_live key a then used key a else (load key size a).area
