-- In reading order.
pub mod LinkLemmas
pub mod CallLemmas
-- Passed on from the crates below.
pub use Rattle.spl_operators.proofs.spl_conditions_proofs
pub use Rattle.spl_intrinsics.proofs.spl_endings_proofs
pub use Rattle.spl_intrinsics.proofs as spl_intrinsics_proofs
pub use Rattle.spl_operators.proofs as spl_operators_proofs
pub use Rattle.spl_intrinsics.proofs.spl_values_proofs
