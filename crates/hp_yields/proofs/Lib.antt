pub mod YieldForms
pub mod StackYields
pub mod WordYields
pub mod MemoryYields
-- Passed on from the crates below.
pub use Rattle.spl_follow.proofs.hp_word_proofs
pub use Rattle.spl_follow.proofs as spl_follow_proofs
pub use Rattle.spl_follow.proofs.spl_frames_proofs
