-- In reading order.
pub mod StepLemmas
pub mod UnitLemmas
pub mod CountLemmas
pub mod MoveLemmas
pub mod PartLemmas
pub mod CountedLemmas
pub mod ValueLemmas
pub mod AnswerLemmas
-- Passed on from the crates below.
pub use Rattle.hp_call_yields.proofs as hp_call_yields_proofs
pub use Rattle.spl_statement_code.proofs.hp_word_proofs
pub use Rattle.hp_call_yields.proofs.hp_yields_proofs
pub use Rattle.spl_operators.proofs.spl_conditions_proofs
pub use Rattle.hp_call_yields.proofs.spl_follow_proofs
pub use Rattle.spl_operands.proofs as spl_operands_proofs
pub use Rattle.spl_operands.proofs.spl_values_proofs
