pub mod Readers
pub mod ReadExpressions
pub mod ReadStatements
pub mod ReadDeclarations
-- Passed on from the crates below.
pub use Rattle.spl_tree.specs as spl_tree
