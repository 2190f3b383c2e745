-- In reading order.
pub mod Wide
pub mod Laws
-- Passed on from the crates below.
pub use Rattle.spl_targets.specs.hp_flat
pub use Rattle.spl_targets.specs.hp_instr
pub use Rattle.spl_targets.specs.hp_session
pub use Rattle.spl_targets.specs.hp_word
pub use Rattle.spl_targets.specs.spl_branch
pub use Rattle.spl_targets.specs.spl_code
pub use Rattle.spl_targets.specs.spl_covered
pub use Rattle.spl_targets.specs.spl_follow
pub use Rattle.spl_targets.specs.spl_intrinsics
pub use Rattle.spl_targets.specs.spl_links
pub use Rattle.spl_targets.specs.spl_meaning
pub use Rattle.spl_targets.specs.spl_names
pub use Rattle.spl_targets.specs.spl_operands
pub use Rattle.spl_targets.specs.spl_statement_code
pub use Rattle.spl_targets.specs as spl_targets
pub use Rattle.spl_targets.specs.spl_tops
pub use Rattle.spl_targets.specs.spl_tree
pub use Rattle.spl_targets.specs.spl_values
pub use Rattle.spl_targets.specs.spl_whom
