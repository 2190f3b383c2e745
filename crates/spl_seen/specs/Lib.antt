-- In reading order.
pub mod Grounds
pub mod Laws
-- Passed on from the crates below.
pub use Rattle.spl_sound_values.specs as spl_sound_values
