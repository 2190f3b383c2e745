-- In reading order.
pub mod Procedures
pub mod Laws
-- Passed on from the crates below.
pub use Rattle.hp_call_yields.specs.hp_flat
pub use Rattle.hp_call_yields.specs.hp_instr
pub use Rattle.hp_call_yields.specs.hp_session
pub use Rattle.hp_call_yields.specs.hp_stack_rows
pub use Rattle.hp_call_yields.specs.hp_word
pub use Rattle.hp_call_yields.specs.hp_word_rows
pub use Rattle.spl_grants.specs.spl_body_code
pub use Rattle.spl_grants.specs.spl_branch
pub use Rattle.spl_grants.specs.spl_code
pub use Rattle.hp_call_yields.specs.spl_follow
pub use Rattle.spl_grants.specs.spl_meaning
pub use Rattle.spl_grants.specs.spl_tree
pub use Rattle.spl_grants.specs.spl_values
