-- In reading order.
pub mod Laws
-- Passed on from the crates below.
pub use Rattle.spl_carried.specs.hp_program
pub use Rattle.spl_carried.specs.mpe_segmenter
pub use Rattle.spl_carried.specs.spl_bounds
pub use Rattle.spl_carried.specs.spl_callable
pub use Rattle.spl_carried.specs as spl_carried
pub use Rattle.spl_carried.specs.spl_carries
pub use Rattle.spl_carried.specs.spl_meaning
pub use Rattle.spl_carried.specs.spl_places
pub use Rattle.spl_sound_headings.specs.spl_routes
