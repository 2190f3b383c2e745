-- In reading order.
pub mod Words
pub mod Choices
pub mod Laws
-- Passed on from the crates below.
pub use Rattle.spl_follow.specs.hp_instr
pub use Rattle.spl_follow.specs.hp_program
pub use Rattle.hp_steady.specs as hp_steady
pub use Rattle.spl_follow.specs.spl_branch
pub use Rattle.spl_follow.specs as spl_follow
pub use Rattle.spl_follow.specs.spl_tree
