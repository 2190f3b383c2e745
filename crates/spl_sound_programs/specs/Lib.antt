-- In reading order.
pub mod Called
pub mod Laws
-- Passed on from the crates below.
pub use Rattle.spl_linked_names.specs as spl_linked_names
pub use Rattle.spl_sound_bodies.specs.spl_ruled_bodies
pub use Rattle.spl_seen.specs as spl_seen
pub use Rattle.spl_sound_bodies.specs as spl_sound_bodies
