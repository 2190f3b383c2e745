-- In reading order.
pub mod MoveLemmas
pub mod TargetLemmas
pub mod AssignLemmas
pub mod CodeLemmas
pub mod CountLemmas
-- Passed on from the crates below.
pub use Rattle.spl_safe_values.proofs as spl_safe_values_proofs
