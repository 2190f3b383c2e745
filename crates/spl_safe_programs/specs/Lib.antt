-- In reading order.
pub mod Laws
-- Passed on from the crates below.
pub use Rattle.spl_sound_programs.specs as spl_sound_programs
