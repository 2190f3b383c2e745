-- In reading order.
pub mod Whom
pub mod Laws
-- Passed on from the crates below.
pub use Rattle.spl_links.specs.spl_endings
pub use Rattle.spl_links.specs.spl_intrinsics
pub use Rattle.spl_links.specs as spl_links
pub use Rattle.spl_links.specs.spl_operators
