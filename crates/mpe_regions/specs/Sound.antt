-- Where the regions of an area lie: inside it and apart, each key once.
use Rattle.std.specs.Prelude.{◌≡◌, ℕ, ◌+◌, ◌<◌, ◌≤◌, Bool, true, ◌&&◌, ◌||◌, nat_le, List, [], ◌∷◌, length}
use Rattle.mpe_regions.specs.declared.region.Region.{Region}
use Rattle.mpe_regions.specs.Area.{Area, times_placed, times_used}

-- the regions lie one behind the other from `from` to `end`, and none is empty
abbrev pub IsLaidOut : ℕ → ℕ → List Region → Type 0
IsLaidOut from end [] = from ≤ end
IsLaidOut from end (r ∷ rs) = (from ≤ r.place) × (0 < r.size) × IsLaidOut (r.place + r.size) end rs

-- a sound area: its regions lie inside and apart, no key is there twice, and the order of use has the keys of the
-- regions
pub record IsSound (a : Area) : Type 0 where
  pub laid_out : IsLaidOut 0 a.size a.list
  pub once : (key : ℕ) → times_placed key a.list ≤ 1
  pub both : (key : ℕ) → times_used key a.order ≡ times_placed key a.list
  pub long : length a.order ≡ length a.list

-- `want` words from a place on meet none of these regions
abbrev pub is_free : ℕ → ℕ → List Region → Bool
is_free want at [] = true
is_free want at (r ∷ rs) = (nat_le (r.place + r.size) at || nat_le (at + want) r.place) && is_free want at rs

-- `want` words from a place on lie in the area and meet no region
abbrev pub is_hole : Area → ℕ → ℕ → Bool
is_hole a want at = nat_le (at + want) a.size && is_free want at a.list
