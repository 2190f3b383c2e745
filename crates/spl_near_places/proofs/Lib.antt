pub mod Frames
pub mod Lists
pub mod Units
pub mod Split
-- Passed on from the crates below.
pub use Rattle.spl_fits.proofs as spl_fits_proofs
pub use Rattle.spl_sound_names.proofs as spl_sound_names_proofs
pub use Rattle.spl_sound_names.proofs.spl_meaning_proofs
pub use Rattle.spl_fits.proofs.spl_depths_proofs
