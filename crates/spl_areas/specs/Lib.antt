-- Passed on from the crates below.
pub use Rattle.spl_places.specs.Gathered
pub use Rattle.spl_places.specs.spl_spots
pub use Rattle.spl_places.specs.spl_found
pub use Rattle.spl_places.specs as spl_places
pub use Rattle.spl_sound.specs as spl_sound
