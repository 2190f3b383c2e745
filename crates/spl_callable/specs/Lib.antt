-- In reading order.
pub mod Callable
pub mod Laws
-- Passed on from the crates below.
pub use Rattle.spl_callees.specs.spl_endings
pub use Rattle.spl_mains.specs.spl_follow
pub use Rattle.spl_mains.specs.spl_followed
pub use Rattle.spl_mains.specs.spl_jumps
pub use Rattle.spl_readings.specs.spl_modules
pub use Rattle.spl_mains.specs.spl_names
pub use Rattle.spl_inners.specs.spl_routines
pub use Rattle.spl_inners.specs.spl_sound_jumps
pub use Rattle.spl_inners.specs.spl_ways
