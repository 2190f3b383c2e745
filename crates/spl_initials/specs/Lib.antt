pub mod Memory
pub mod Cells
pub mod Lists
-- Passed on from the crates below.
pub use Rattle.spl_places.specs.spl_found
pub use Rattle.spl_places.specs as spl_places
