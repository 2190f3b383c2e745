-- In reading order.
pub mod ReferenceLemmas
pub mod EffectLemmas
pub mod AnswerLemmas
-- Passed on from the crates below.
pub use Rattle.spl_covered.proofs as spl_covered_proofs
pub use Rattle.spl_covered.proofs.spl_names_proofs
