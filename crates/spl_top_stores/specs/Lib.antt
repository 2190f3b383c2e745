-- In reading order.
pub mod Laws
-- Passed on from the crates below.
pub use Rattle.spl_tops.specs as spl_tops
