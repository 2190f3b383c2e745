-- In reading order.
pub mod Laws
pub mod Sequences
-- Passed on from the crates below.
pub use Rattle.spl_follow.specs.hp_flat
pub use Rattle.spl_follow.specs.hp_memory_rows
pub use Rattle.spl_follow.specs.hp_session
pub use Rattle.spl_follow.specs.hp_stack_rows
pub use Rattle.spl_follow.specs.hp_word_rows
pub use Rattle.spl_follow.specs as spl_follow
