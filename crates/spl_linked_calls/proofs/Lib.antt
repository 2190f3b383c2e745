pub mod Statements
-- Passed on from the crates below.
pub use Rattle.spl_safe_parts.proofs.spl_safe_calls_proofs
pub use Rattle.spl_safe_parts.proofs.spl_safe_statements_proofs
