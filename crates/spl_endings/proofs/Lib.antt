-- In reading order.
pub mod WantLemmas
pub mod GateLemmas
pub mod CallLemmas
-- Passed on from the crates below.
pub use Rattle.hp_call_yields.proofs as hp_call_yields_proofs
pub use Rattle.hp_call_yields.proofs.hp_yields_proofs
pub use Rattle.hp_call_yields.proofs.spl_follow_proofs
pub use Rattle.hp_call_yields.proofs.spl_frames_proofs
