pub mod Stored
-- Passed on from the crates below.
pub use Rattle.spl_areas.specs as spl_areas
pub use Rattle.spl_initials.specs as spl_initials
pub use Rattle.spl_sorts.specs.spl_meaning
pub use Rattle.spl_initials.specs.spl_places
pub use Rattle.spl_areas.specs.spl_sound
