pub mod Parts
-- Passed on from the crates below.
pub use Rattle.spl_safe_calls.proofs as spl_safe_calls_proofs
pub use Rattle.spl_safe_calls.proofs.spl_safe_statements_proofs
