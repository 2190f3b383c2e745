-- In reading order.
pub mod Made
pub mod Entered
pub mod UnitModules
pub mod Walks
-- Passed on from the crates below.
pub use Rattle.spl_places.specs.spl_found
pub use Rattle.spl_places.specs as spl_places
pub use Rattle.spl_scopes.specs as spl_scopes
pub use Rattle.spl_sound.specs as spl_sound
