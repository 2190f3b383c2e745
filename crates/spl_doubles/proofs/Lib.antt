-- In reading order.
pub mod DoubleLemmas
pub mod RelationLemmas
pub mod SignLemmas
pub mod StoreLemmas
pub mod CellLemmas
-- Passed on from the crates below.
pub use Rattle.spl_operators.proofs.hp_yields_proofs
pub use Rattle.spl_operators.proofs.spl_conditions_proofs
pub use Rattle.spl_operators.proofs.spl_follow_proofs
pub use Rattle.spl_variables.proofs.spl_operands_proofs
pub use Rattle.spl_operators.proofs as spl_operators_proofs
pub use Rattle.spl_operators.proofs.spl_values_proofs
pub use Rattle.spl_variables.proofs as spl_variables_proofs
