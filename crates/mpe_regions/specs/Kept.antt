-- What a table of regions is to its callers.
use Rattle.std.specs.Prelude.{ℕ}
use Rattle.mpe_regions.specs.Area.{Area}

-- the area, and how many regions there is room for
pub record Kept : Type 0 where
  pub area : Area
  pub room : ℕ
