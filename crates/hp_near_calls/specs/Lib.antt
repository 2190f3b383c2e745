-- In reading order.
pub mod Near
pub mod Laws
-- Passed on from the crates below.
pub use Rattle.hp_steady.specs as hp_steady
pub use Rattle.spl_follow.specs.spl_frames
