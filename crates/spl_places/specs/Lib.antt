pub mod ListedData
pub mod Counters
pub mod Held
pub mod Passed
pub mod Spots
pub mod Programs
pub mod Gathered
pub mod Apart
pub mod KnownSpots
-- Passed on from the crates below.
pub use Rattle.spl_spots.specs as spl_spots
pub use Rattle.spl_spots.specs.NameMaps
pub use Rattle.spl_spots.specs.spl_found
pub use Rattle.spl_sorts.specs.spl_meaning
pub use Rattle.spl_tree.specs as spl_tree
