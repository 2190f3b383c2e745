pub mod Layouts
-- Passed on from the crates below.
pub use Rattle.spl_limits.specs.spl_areas
pub use Rattle.spl_entries.specs.spl_globals
pub use Rattle.spl_rooms.specs as spl_rooms
