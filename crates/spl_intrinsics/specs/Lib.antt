-- In reading order.
pub mod Laws
pub mod Calls
-- Passed on from the crates below.
pub use Rattle.spl_endings.specs.hp_call_rows
pub use Rattle.spl_endings.specs.hp_flat
pub use Rattle.spl_statement_code.specs.hp_instr
pub use Rattle.spl_endings.specs.hp_session
pub use Rattle.spl_endings.specs.hp_stack_rows
pub use Rattle.spl_statement_code.specs.hp_word
pub use Rattle.spl_endings.specs.hp_word_rows
pub use Rattle.spl_statement_code.specs.spl_branch
pub use Rattle.spl_statement_code.specs.spl_code
pub use Rattle.spl_endings.specs as spl_endings
pub use Rattle.spl_endings.specs.spl_follow
pub use Rattle.spl_endings.specs.spl_frames
pub use Rattle.spl_statement_code.specs.spl_meaning
pub use Rattle.spl_statement_code.specs as spl_statement_code
pub use Rattle.spl_statement_code.specs.spl_tree
pub use Rattle.spl_operands.specs.spl_values
