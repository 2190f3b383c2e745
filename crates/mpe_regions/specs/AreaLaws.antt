-- The laws of the area.
use Rattle.std.specs.Prelude.{◌≡◌, ◌≢◌, ℕ, ◌+◌, ◌<◌, ◌≤◌, true, false, ◌⊎◌, None, Some}
use Rattle.mpe_regions.specs.declared.region.Region.{Region}
use Rattle.mpe_regions.specs.Area.{Area, region_of, IsAbsent}
use Rattle.mpe_regions.specs.Loads.{Load, hole, put, load}
use Rattle.mpe_regions.specs.Sound.{IsSound, is_hole}

-- each region lies in the area
abbrev pub RegionsLieInside : Type 0
RegionsLieInside = (a : Area) (key : ℕ) (r : Region) → IsSound a → region_of key a.list ≡ Some r
    → r.place + r.size ≤ a.size

-- the regions of two keys have no word in common
abbrev pub RegionsLieApart : Type 0
RegionsLieApart = (a : Area) (j k : ℕ) (r s : Region) → IsSound a → j ≢ k → region_of j a.list ≡ Some r
    → region_of k a.list ≡ Some s
    → (r.place + r.size ≤ s.place) ⊎ (s.place + s.size ≤ r.place)

-- a hole that is found is one, and there is none below it
abbrev pub HolesAreLowest : Type 0
HolesAreLowest = (a : Area) (want at : ℕ) → IsSound a → hole a want ≡ Some at
    → (is_hole a want at ≡ true) × ((p : ℕ) → p < at → is_hole a want p ≡ false)

-- where no hole is found there is none
abbrev pub HolesAreFound : Type 0
HolesAreFound = (a : Area) (want : ℕ) → IsSound a → hole a want ≡ None → (p : ℕ) → is_hole a want p ≡ false

-- a load gives some regions up and moves none, and takes the lowest hole of what is left; then its key is live
pub record IsLoaded (key size : ℕ) (a : Area) (l : Load) : Type 0 where
  pub left : Area
  pub at : ℕ
  pub same_size : left.size ≡ a.size
  pub less : (k : ℕ) (r : Region) → region_of k left.list ≡ Some r → region_of k a.list ≡ Some r
  pub left_sound : IsSound left
  pub absent : IsAbsent key left
  pub hole_is : hole left size ≡ Some at
  pub area_is : l.area ≡ put key size at left
  pub place_is : l.place ≡ Some at
  pub sound : IsSound l.area
  pub live : region_of key l.area.list ≡ Some (record { key = key; place = at; size = size })

-- a segment that is no larger than the area is always loaded
abbrev pub SmallOnesAreLoaded : Type 0
SmallOnesAreLoaded = (a : Area) (key size : ℕ) → IsSound a → IsAbsent key a → 0 < size → size ≤ a.size
    → IsLoaded key size a (load key size a)
