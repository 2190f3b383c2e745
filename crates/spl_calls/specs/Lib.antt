-- In reading order.
pub mod Covered
pub mod Laws
-- Passed on from the crates below.
pub use Rattle.spl_targets.specs.spl_field_stores
pub use Rattle.spl_targets.specs as spl_targets
