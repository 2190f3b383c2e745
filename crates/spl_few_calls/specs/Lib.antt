-- In reading order.
pub mod Calls
pub mod Laws
-- Passed on from the crates below.
pub use Rattle.spl_sound.specs as spl_sound
