-- In reading order.
pub mod RowLemmas
pub mod OperandLemmas
pub mod BitLemmas
pub mod SingleLemmas
-- Passed on from the crates below.
pub use Rattle.spl_conditions.proofs.hp_word_proofs
pub use Rattle.spl_conditions.proofs.hp_yields_proofs
pub use Rattle.spl_conditions.proofs as spl_conditions_proofs
pub use Rattle.spl_conditions.proofs.spl_follow_proofs
pub use Rattle.spl_conditions.proofs.spl_values_proofs
