-- In reading order.
pub mod Reached
pub mod Laws
-- Passed on from the crates below.
pub use Rattle.hp_yields.specs.hp_flat
pub use Rattle.hp_yields.specs.hp_instr
pub use Rattle.hp_yields.specs.hp_memory_rows
pub use Rattle.hp_yields.specs.hp_session
pub use Rattle.hp_yields.specs.hp_stack_rows
pub use Rattle.hp_yields.specs.hp_word
pub use Rattle.hp_yields.specs.hp_word_rows
pub use Rattle.hp_yields.specs as hp_yields
pub use Rattle.hp_yields.specs.spl_branch
pub use Rattle.hp_yields.specs.spl_code
pub use Rattle.hp_yields.specs.spl_follow
pub use Rattle.hp_yields.specs.spl_frames
pub use Rattle.hp_yields.specs.spl_meaning
pub use Rattle.hp_yields.specs.spl_tree
