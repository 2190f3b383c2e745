pub mod PlaceLemmas
pub mod GroundLemmas
pub mod FitLemmas
pub mod ProgramLemmas
pub mod KnownGrounds
-- Passed on from the crates below.
pub use Rattle.mpe_segmenter.proofs as mpe_segmenter_proofs
