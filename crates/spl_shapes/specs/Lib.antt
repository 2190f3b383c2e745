-- In reading order.
pub mod Shapes
pub mod Laws
-- Passed on from the crates below.
pub use Rattle.spl_cuts.specs.spl_tree
