-- In reading order.
pub mod Laws
-- Passed on from the crates below.
pub use Rattle.spl_operators.specs.hp_flat
pub use Rattle.spl_operators.specs.hp_instr
pub use Rattle.spl_operators.specs.hp_session
pub use Rattle.spl_operators.specs.hp_stack_rows
pub use Rattle.spl_operators.specs.hp_word
pub use Rattle.spl_operators.specs.hp_word_rows
pub use Rattle.spl_operators.specs.hp_yields
pub use Rattle.spl_operators.specs.spl_branch
pub use Rattle.spl_operators.specs.spl_code
pub use Rattle.spl_operators.specs.spl_follow
pub use Rattle.spl_operators.specs.spl_meaning
pub use Rattle.spl_variables.specs.spl_operands
pub use Rattle.spl_operators.specs as spl_operators
pub use Rattle.spl_operators.specs.spl_tree
pub use Rattle.spl_operators.specs.spl_values
