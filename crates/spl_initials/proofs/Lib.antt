pub mod MemoryLemmas
pub mod ValueWalks
pub mod CellWalks
pub mod InitialWalks
pub mod LaidLaws
pub mod FoundLemmas
-- Passed on from the crates below.
pub use Rattle.spl_places.proofs.spl_found_proofs
pub use Rattle.spl_places.proofs.spl_lists_proofs
pub use Rattle.spl_places.proofs as spl_places_proofs
