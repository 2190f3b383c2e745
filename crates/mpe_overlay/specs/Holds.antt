-- What the code area keeps: each region has the words of the segment whose key it has.
use Rattle.std.specs.Prelude.{◌≡◌, ℕ, ◌+◌, ◌≤◌, List, length, slice_range, Some}
use Rattle.mpe_regions.specs.declared.region.Region.{Region}
use Rattle.mpe_regions.specs.Area.{Area, region_of}
use Rattle.mpe_regions.specs.Kept.{Kept}
use Rattle.mpe_overlay.specs.Codes.{segment_at}

-- the words of the area in a region
abbrev pub words_in : List ℕ → Region → List ℕ
words_in words r = slice_range words r.place (r.place + r.size)

-- each region lies within the words of the area
pub record LiesWithin (words : List ℕ) (a : Area) : Type 0 where
  pub within : (key : ℕ) (r : Region) → region_of key a.list ≡ Some r → r.place + r.size ≤ length words

-- the area has its size in words, ends within the greatest memory, and has room for every segment of 16 programs; each
-- region has the words of its segment
pub record HoldsCode (base : ℕ) (words : List ℕ) (kept : Kept) (codes : List (List (List ℕ))) : Type 0 where
  pub long : length words ≡ kept.area.size
  pub small : base + kept.area.size ≤ 1048576
  pub few : length codes ≤ 16
  pub room : kept.room ≡ 4096
  pub within : (key : ℕ) (r : Region) → region_of key kept.area.list ≡ Some r → r.place + r.size ≤ length words
  pub each : (key : ℕ) (r : Region) → region_of key kept.area.list ≡ Some r
      → segment_at codes key ≡ Some (words_in words r)
