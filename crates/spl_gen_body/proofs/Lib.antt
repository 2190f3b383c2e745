-- In reading order.
pub mod CountLemmas
pub mod CellWalks
pub mod InitialWalks
pub mod InitialLemmas
pub mod MarkedLemmas
pub mod FrameLaws
-- Passed on from the crates below.
pub use Rattle.spl_body_code.proofs as spl_body_code_proofs
pub use Rattle.spl_body_code.proofs.spl_code_proofs
pub use Rattle.spl_gen_expr.proofs.spl_found_proofs
pub use Rattle.spl_operations.proofs as spl_operations_proofs
