-- In reading order.
pub mod Laws
-- Passed on from the crates below.
pub use Rattle.spl_bounds.specs.hp_flat
pub use Rattle.spl_bounds.specs as spl_bounds
pub use Rattle.spl_bounds.specs.spl_carries
