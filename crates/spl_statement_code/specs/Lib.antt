-- In reading order.
pub mod Instructions
pub mod Landings
pub mod Assignments
pub mod Effects
pub mod Statements
pub mod Labels
pub mod FewWords
-- Passed on from the crates below.
pub use Rattle.spl_code.specs.hp_instr
pub use Rattle.spl_code.specs.hp_word
pub use Rattle.spl_code.specs.spl_branch
pub use Rattle.spl_code.specs as spl_code
pub use Rattle.spl_code.specs.spl_meaning
pub use Rattle.spl_code.specs.spl_tree
