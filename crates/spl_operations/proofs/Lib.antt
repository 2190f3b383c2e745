pub mod PutLemmas
pub mod FieldLemmas
-- Passed on from the crates below.
pub use Rattle.spl_code.proofs as spl_code_proofs
pub use Rattle.spl_spots.proofs as spl_spots_proofs
