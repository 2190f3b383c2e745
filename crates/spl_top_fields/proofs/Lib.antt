-- In reading order.
pub mod VariableLemmas
pub mod WaitLemmas
pub mod CellLemmas
pub mod ElementLemmas
-- Passed on from the crates below.
pub use Rattle.spl_field_stores.proofs.spl_follow_proofs
pub use Rattle.spl_field_stores.proofs.spl_operands_proofs
pub use Rattle.spl_field_stores.proofs.spl_variables_proofs
