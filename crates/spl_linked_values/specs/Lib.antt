-- In reading order.
pub mod Linked
pub mod Laws
-- Passed on from the crates below.
pub use Rattle.spl_covered.specs as spl_covered
