pub mod Plain
pub mod Spots
pub mod Settable
-- Passed on from the crates below.
pub use Rattle.spl_near_places.proofs.spl_fits_proofs
pub use Rattle.spl_ruled_bodies.proofs as spl_ruled_bodies_proofs
pub use Rattle.spl_ruled_bodies.proofs.spl_sound_names_proofs
pub use Rattle.spl_near_places.proofs.spl_depths_proofs
