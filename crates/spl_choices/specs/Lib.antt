-- In reading order.
pub mod Laws
-- Passed on from the crates below.
pub use Rattle.spl_control.specs.hp_flat
pub use Rattle.spl_statement_code.specs.hp_instr
pub use Rattle.spl_control.specs.hp_memory_rows
pub use Rattle.spl_control.specs.hp_session
pub use Rattle.spl_statement_code.specs.hp_word
pub use Rattle.spl_control.specs.hp_word_rows
pub use Rattle.spl_statement_code.specs.spl_branch
pub use Rattle.spl_statement_code.specs.spl_code
pub use Rattle.spl_control.specs as spl_control
pub use Rattle.spl_control.specs.spl_follow
pub use Rattle.spl_statement_code.specs.spl_meaning
pub use Rattle.spl_statement_code.specs as spl_statement_code
pub use Rattle.spl_statement_code.specs.spl_tree
pub use Rattle.spl_conditions.specs.spl_values
