pub mod GrowthLemmas
pub mod LineLemmas
pub mod SizeLemmas
pub mod JobLemmas
pub mod KnownTexts
-- Passed on from the crates below.
pub use Rattle.job_text.proofs as job_text_proofs
