pub mod Rooms
pub mod Walked
-- Passed on from the crates below.
pub use Rattle.spl_places.specs as spl_places
