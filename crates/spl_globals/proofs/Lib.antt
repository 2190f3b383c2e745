pub mod StoredWalks
pub mod StoredLaws
pub mod ZeroLemmas
-- Passed on from the crates below.
pub use Rattle.spl_initials.proofs.spl_places_proofs
