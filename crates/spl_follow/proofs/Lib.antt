-- In reading order.
pub mod WayLemmas
pub mod FollowLemmas
pub mod StandLemmas
pub mod StackLemmas
pub mod KeepLemmas
pub mod RowLemmas
pub mod PartLemmas
mod KnownPlaces
mod KnownDoings
-- Passed on from the crates below.
pub use Rattle.hp_flat.proofs.hp_word_proofs
pub use Rattle.spl_frames.proofs as spl_frames_proofs
