-- In reading order: which words a segment of a program has and where they stand, what a need answers, and what a view
-- holds.
pub mod Codes
pub mod Holds
pub mod Needs
pub mod Held
-- Passed on from the crates below.
pub use Rattle.mpe_regions.specs as mpe_regions
