-- In reading order.
pub mod Instructions
pub mod Parts
pub mod Constants
pub mod Operators
pub mod Operands
pub mod Calls
pub mod Code
pub mod Stores
pub mod Appends
pub mod FewWords
-- Passed on from the crates below.
pub use Rattle.spl_branch.specs.hp_instr
pub use Rattle.spl_meaning.specs.hp_word
pub use Rattle.spl_branch.specs as spl_branch
pub use Rattle.spl_meaning.specs as spl_meaning
pub use Rattle.spl_meaning.specs.spl_tree
