pub mod DataWalks
pub mod CounterWalks
pub mod HeldLaws
pub mod CounterLaws
pub mod PlaceWalks
pub mod ProgramLaws
pub mod ApartLaws
pub mod SoundLaws
-- Passed on from the crates below.
pub use Rattle.spl_spots.proofs as spl_spots_proofs
pub use Rattle.spl_spots.proofs.NameMapLemmas
pub use Rattle.spl_spots.proofs.spl_found_proofs
pub use Rattle.spl_lists.proofs as spl_lists_proofs
