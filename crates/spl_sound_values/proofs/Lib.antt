pub mod Parts
pub mod Variables
pub mod Names
pub mod Constants
pub mod Operands
pub mod Calls
pub mod NamedValues
pub mod Binary
pub mod Bytes
pub mod Values
-- Passed on from the crates below.
pub use Rattle.spl_near_places.proofs.spl_meaning_proofs
pub use Rattle.spl_near_places.proofs as spl_near_places_proofs
pub use Rattle.spl_near_places.proofs.spl_sound_names_proofs
pub use Rattle.spl_covered.proofs.spl_tops_proofs
