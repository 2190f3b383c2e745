-- In reading order.
pub mod GrownLemmas
pub mod PartLemmas
pub mod WordCounts
pub mod ViewLemmas
pub mod StatementLemmas
-- Passed on from the crates below.
pub use Rattle.spl_statement_code.proofs.spl_code_proofs
pub use Rattle.spl_operations.proofs as spl_operations_proofs
pub use Rattle.spl_operations.proofs.spl_spots_proofs
