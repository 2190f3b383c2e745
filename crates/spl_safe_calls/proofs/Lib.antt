pub mod Entering
pub mod Calls
-- Passed on from the crates below.
pub use Rattle.spl_safe_statements.proofs as spl_safe_statements_proofs
