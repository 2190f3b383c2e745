-- In reading order.
pub mod PutLemmas
pub mod ClearLemmas
pub mod EntryLemmas
pub mod FrameLemmas
pub mod LeaveLemmas
pub mod CallLemmas
-- Passed on from the crates below.
pub use Rattle.hp_call_yields.proofs as hp_call_yields_proofs
pub use Rattle.hp_call_yields.proofs.hp_word_proofs
pub use Rattle.hp_call_yields.proofs.hp_yields_proofs
pub use Rattle.spl_grants.proofs.spl_body_code_proofs
pub use Rattle.hp_call_yields.proofs.spl_follow_proofs
pub use Rattle.spl_grants.proofs as spl_grants_proofs
pub use Rattle.spl_grants.proofs.spl_values_proofs
