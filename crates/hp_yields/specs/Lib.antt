-- In reading order.
pub mod Rows
pub mod Laws
-- Passed on from the crates below.
pub use Rattle.spl_follow.specs.hp_call_rows
pub use Rattle.spl_follow.specs.hp_flat
pub use Rattle.spl_follow.specs.hp_instr
pub use Rattle.spl_follow.specs.hp_memory_rows
pub use Rattle.spl_follow.specs.hp_program
pub use Rattle.spl_follow.specs.hp_session
pub use Rattle.spl_follow.specs.hp_stack_rows
pub use Rattle.spl_follow.specs.hp_word
pub use Rattle.spl_follow.specs.hp_word_rows
pub use Rattle.spl_follow.specs.spl_branch
pub use Rattle.spl_follow.specs.spl_code
pub use Rattle.spl_follow.specs as spl_follow
pub use Rattle.spl_follow.specs.spl_frames
pub use Rattle.spl_follow.specs.spl_meaning
pub use Rattle.spl_follow.specs.spl_tree
