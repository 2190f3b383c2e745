-- In reading order.
pub mod Results
pub mod Laws
-- Passed on from the crates below.
pub use Rattle.spl_stores.specs as spl_stores
pub use Rattle.spl_stores.specs.spl_targets
