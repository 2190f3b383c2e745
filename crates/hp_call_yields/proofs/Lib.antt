pub mod MoveYields
pub mod CallYields
pub mod GateYields
pub mod LoopYields
pub mod BranchYields
-- Passed on from the crates below.
pub use Rattle.hp_yields.proofs.hp_word_proofs
pub use Rattle.hp_yields.proofs as hp_yields_proofs
pub use Rattle.hp_yields.proofs.spl_follow_proofs
pub use Rattle.hp_yields.proofs.spl_frames_proofs
