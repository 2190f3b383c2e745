-- In reading order.
pub mod Moving
pub mod Laws
-- Passed on from the crates below.
pub use Rattle.hp_call_yields.specs.hp_flat
pub use Rattle.spl_statement_code.specs.hp_instr
pub use Rattle.hp_call_yields.specs.hp_memory_rows
pub use Rattle.hp_call_yields.specs.hp_program
pub use Rattle.hp_call_yields.specs.hp_session
pub use Rattle.spl_statement_code.specs.hp_word
pub use Rattle.hp_call_yields.specs.hp_word_rows
pub use Rattle.hp_call_yields.specs.hp_yields
pub use Rattle.spl_statement_code.specs.spl_branch
pub use Rattle.spl_statement_code.specs.spl_code
pub use Rattle.hp_call_yields.specs.spl_follow
pub use Rattle.hp_call_yields.specs.spl_frames
pub use Rattle.spl_statement_code.specs.spl_meaning
pub use Rattle.spl_operands.specs as spl_operands
pub use Rattle.spl_statement_code.specs as spl_statement_code
pub use Rattle.spl_statement_code.specs.spl_tree
pub use Rattle.spl_operands.specs.spl_values
