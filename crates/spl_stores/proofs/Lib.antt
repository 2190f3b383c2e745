-- In reading order.
pub mod StoreLemmas
pub mod ChoiceLemmas
pub mod CaseLemmas
pub mod ForLemmas
pub mod AssignLemmas
pub mod WithinLemmas
pub mod CoverLemmas
-- Passed on from the crates below.
pub use Rattle.spl_counts.proofs.spl_control_proofs
pub use Rattle.spl_calls.proofs.spl_variables_proofs
