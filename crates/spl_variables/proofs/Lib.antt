-- In reading order.
pub mod OwnLemmas
-- Passed on from the crates below.
pub use Rattle.spl_operands.proofs.hp_word_proofs
pub use Rattle.spl_operands.proofs.hp_yields_proofs
pub use Rattle.spl_operands.proofs.spl_follow_proofs
pub use Rattle.spl_operands.proofs as spl_operands_proofs
pub use Rattle.spl_operands.proofs.spl_values_proofs
