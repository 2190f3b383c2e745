pub mod FirstPassed
pub mod Answers
-- Passed on from the crates below.
pub use Rattle.spl_areas.specs as spl_areas
