-- In reading order.
pub mod Operands
pub mod Laws
-- Passed on from the crates below.
pub use Rattle.spl_values.specs.hp_flat
pub use Rattle.spl_values.specs.hp_instr
pub use Rattle.spl_values.specs.hp_memory_rows
pub use Rattle.spl_values.specs.hp_session
pub use Rattle.spl_values.specs.hp_word
pub use Rattle.spl_values.specs.hp_word_rows
pub use Rattle.spl_values.specs.hp_yields
pub use Rattle.spl_values.specs.spl_branch
pub use Rattle.spl_values.specs.spl_code
pub use Rattle.spl_values.specs.spl_follow
pub use Rattle.spl_values.specs.spl_frames
pub use Rattle.spl_values.specs.spl_meaning
pub use Rattle.spl_values.specs.spl_tree
pub use Rattle.spl_values.specs as spl_values
