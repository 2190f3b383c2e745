-- In reading order.
pub mod Assigned
pub mod Laws
-- Passed on from the crates below.
pub use Rattle.spl_wide.specs as spl_wide
