pub mod Spots
pub mod NameMaps
pub mod Fulls
-- Passed on from the crates below.
pub use Rattle.spl_found.specs as spl_found
