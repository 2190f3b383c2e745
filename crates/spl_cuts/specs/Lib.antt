pub mod Signs
pub mod Bytes
pub mod Commands
pub mod Pieces
pub mod Defines
pub mod Cutting
pub mod Lexemes
pub mod Whole
pub mod FaultEnds
pub mod Reading
pub mod Laws
-- Passed on from the crates below.
pub use Rattle.spl_tree.specs as spl_tree
