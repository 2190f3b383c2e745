pub mod Calls
pub mod Parts
pub mod Reach
pub mod Reached
pub mod Places
pub mod ReachLaws
pub mod HeadingLaws
-- Passed on from the crates below.
pub use Rattle.spl_uses.specs.spl_found
