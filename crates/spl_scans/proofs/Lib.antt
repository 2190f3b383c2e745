-- In reading order.
pub mod SpellLemmas
pub mod TextLemmas
pub mod PairLemmas
pub mod ClassLemmas
pub mod WhileLemmas
pub mod ByteLemmas
pub mod AnswerLemmas
-- Passed on from the crates below.
pub use Rattle.spl_moves.proofs.hp_call_yields_proofs
pub use Rattle.spl_moves.proofs.spl_conditions_proofs
pub use Rattle.spl_moves.proofs.spl_follow_proofs
pub use Rattle.spl_moves.proofs as spl_moves_proofs
pub use Rattle.spl_moves.proofs.spl_operands_proofs
pub use Rattle.spl_moves.proofs.spl_values_proofs
