pub mod Complete
-- Passed on from the crates below.
pub use Rattle.spl_call_indexes.proofs as spl_call_indexes_proofs
