pub mod ResultWords
-- Passed on from the crates below.
pub use Rattle.spl_spots.specs.spl_found
