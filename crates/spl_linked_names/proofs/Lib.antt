pub mod Repeats
pub mod Modules
pub mod Apart
pub mod Mains
-- Passed on from the crates below.
pub use Rattle.spl_carried.proofs.spl_callable_proofs
pub use Rattle.spl_carried.proofs as spl_carried_proofs
pub use Rattle.spl_carried.proofs.spl_places_proofs
pub use Rattle.spl_sound_headings.proofs.spl_routes_proofs
pub use Rattle.spl_sound_headings.proofs.spl_routines_proofs
pub use Rattle.spl_sound_headings.proofs as spl_sound_headings_proofs
