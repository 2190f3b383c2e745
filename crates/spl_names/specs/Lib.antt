-- In reading order.
pub mod Names
pub mod Laws
-- Passed on from the crates below.
pub use Rattle.spl_statement_code.specs.hp_instr
pub use Rattle.spl_statement_code.specs.hp_word
pub use Rattle.spl_statement_code.specs.spl_branch
pub use Rattle.spl_statement_code.specs.spl_code
pub use Rattle.spl_statement_code.specs.spl_meaning
pub use Rattle.spl_statement_code.specs as spl_statement_code
pub use Rattle.spl_tops.specs as spl_tops
pub use Rattle.spl_statement_code.specs.spl_tree
pub use Rattle.spl_word_operators.specs as spl_word_operators
