-- In reading order.
pub mod BranchLemmas
pub mod ConditionLemmas
pub mod RelationLemmas
pub mod ComplementLemmas
pub mod ConnectiveLemmas
-- Passed on from the crates below.
pub use Rattle.spl_values.proofs.hp_word_proofs
pub use Rattle.spl_values.proofs.hp_yields_proofs
pub use Rattle.spl_values.proofs.spl_follow_proofs
pub use Rattle.spl_values.proofs as spl_values_proofs
