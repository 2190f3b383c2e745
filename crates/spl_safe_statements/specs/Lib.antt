-- In reading order.
pub mod Safe
pub mod Laws
-- Passed on from the crates below.
pub use Rattle.spl_meaning.specs as spl_meaning
