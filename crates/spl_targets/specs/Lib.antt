-- In reading order.
pub mod Results
pub mod Targets
pub mod Laws
-- Passed on from the crates below.
pub use Rattle.spl_top_fields.specs.hp_flat
pub use Rattle.spl_covered.specs.hp_instr
pub use Rattle.spl_top_fields.specs.hp_session
pub use Rattle.spl_covered.specs.hp_word
pub use Rattle.spl_covered.specs.spl_branch
pub use Rattle.spl_covered.specs.spl_code
pub use Rattle.spl_covered.specs as spl_covered
pub use Rattle.spl_covered.specs.spl_endings
pub use Rattle.spl_top_fields.specs.spl_field_stores
pub use Rattle.spl_top_fields.specs.spl_follow
pub use Rattle.spl_covered.specs.spl_intrinsics
pub use Rattle.spl_covered.specs.spl_links
pub use Rattle.spl_covered.specs.spl_meaning
pub use Rattle.spl_covered.specs.spl_names
pub use Rattle.spl_top_fields.specs.spl_operands
pub use Rattle.spl_covered.specs.spl_statement_code
pub use Rattle.spl_covered.specs.spl_tops
pub use Rattle.spl_covered.specs.spl_tree
pub use Rattle.spl_covered.specs.spl_values
pub use Rattle.spl_covered.specs.spl_whom
