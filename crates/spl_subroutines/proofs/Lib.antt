-- In reading order.
pub mod FrameLemmas
pub mod LeaveLemmas
pub mod CallLemmas
-- Passed on from the crates below.
pub use Rattle.hp_near_calls.proofs.hp_steady_proofs
pub use Rattle.spl_procedures.proofs.spl_follow_proofs
pub use Rattle.spl_procedures.proofs.spl_grants_proofs
