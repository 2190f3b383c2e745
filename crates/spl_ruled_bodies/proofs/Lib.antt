pub mod Fit
pub mod Routines
pub mod Units
-- Passed on from the crates below.
pub use Rattle.spl_sound_beginnings.proofs.spl_found_proofs
pub use Rattle.spl_sound_beginnings.proofs.spl_scopes_proofs
pub use Rattle.spl_sound_beginnings.proofs.spl_sound_names_proofs
