-- In reading order.
pub mod Laws
-- Passed on from the crates below.
pub use Rattle.spl_choices.specs.hp_instr
pub use Rattle.spl_choices.specs.spl_branch
pub use Rattle.spl_choices.specs as spl_choices
pub use Rattle.spl_choices.specs.spl_code
pub use Rattle.spl_choices.specs.spl_control
pub use Rattle.spl_choices.specs.spl_follow
pub use Rattle.spl_choices.specs.spl_meaning
pub use Rattle.spl_tops.specs.spl_operators
pub use Rattle.spl_choices.specs.spl_statement_code
pub use Rattle.spl_choices.specs.spl_tree
pub use Rattle.spl_tops.specs.spl_values
