pub mod Counts
-- Passed on from the crates below.
pub use Rattle.spl_unit_laws.proofs.spl_places_proofs
