-- In reading order.
pub mod Frames
pub mod Cells
pub mod Bodies
pub mod Marked
pub mod Joined
pub mod Based
pub mod Zeros
pub mod FewWords
-- Passed on from the crates below.
pub use Rattle.spl_code.specs.hp_instr
pub use Rattle.spl_code.specs.hp_word
pub use Rattle.spl_code.specs.spl_branch
pub use Rattle.spl_code.specs as spl_code
pub use Rattle.spl_code.specs.spl_meaning
pub use Rattle.spl_code.specs.spl_tree
