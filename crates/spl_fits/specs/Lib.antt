pub mod Fits
pub mod OwnBehind
-- Passed on from the crates below.
pub use Rattle.spl_globals.specs.spl_initials
pub use Rattle.spl_globals.specs.spl_places
