-- In reading order.
pub mod PartLemmas
pub mod ChoiceLemmas
pub mod CodeLemmas
pub mod CaseLemmas
pub mod LoopLemmas
-- Passed on from the crates below.
pub use Rattle.spl_conditions.proofs.hp_yields_proofs
pub use Rattle.spl_conditions.proofs as spl_conditions_proofs
pub use Rattle.spl_control.proofs as spl_control_proofs
pub use Rattle.spl_control.proofs.spl_follow_proofs
pub use Rattle.spl_conditions.proofs.spl_values_proofs
