-- In reading order.
pub mod Moved
pub mod Laws
-- Passed on from the crates below.
pub use Rattle.spl_covered.specs as spl_covered
pub use Rattle.spl_covered.specs.spl_links
pub use Rattle.spl_covered.specs.spl_names
