pub mod FrontLemmas
-- Passed on from the crates below.
pub use Rattle.spl_cuts.proofs as spl_cuts_proofs
