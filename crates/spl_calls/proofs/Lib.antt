-- In reading order.
pub mod CallLemmas
pub mod ProcedureLemmas
-- Passed on from the crates below.
pub use Rattle.spl_targets.proofs as spl_targets_proofs
pub use Rattle.spl_targets.proofs.spl_variables_proofs
