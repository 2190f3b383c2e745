pub mod RowLemmas
pub mod ActLemmas
pub mod CameLemmas
pub mod ReadyLemmas
pub mod StepLemmas
pub mod RoomLemmas
pub mod SuitLemmas
mod KnownSteps
-- Passed on from the crates below.
pub use Rattle.hp_flat.proofs as hp_flat_proofs
