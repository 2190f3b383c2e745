-- In reading order.
pub mod Elements
pub mod Laws
-- Passed on from the crates below.
pub use Rattle.spl_names.specs.hp_instr
pub use Rattle.spl_scans.specs.hp_session
pub use Rattle.spl_names.specs.hp_word
pub use Rattle.spl_names.specs.spl_branch
pub use Rattle.spl_names.specs.spl_code
pub use Rattle.spl_scans.specs.spl_follow
pub use Rattle.spl_names.specs.spl_meaning
pub use Rattle.spl_scans.specs.spl_moves
pub use Rattle.spl_names.specs as spl_names
pub use Rattle.spl_scans.specs as spl_scans
pub use Rattle.spl_names.specs.spl_statement_code
pub use Rattle.spl_names.specs.spl_tops
pub use Rattle.spl_names.specs.spl_tree
pub use Rattle.spl_scans.specs.spl_values
pub use Rattle.spl_names.specs.spl_word_operators
