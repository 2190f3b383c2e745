-- In reading order.
mod EffectLemmas
mod StoreLemmas
mod CallLemmas
pub mod RoomLemmas
pub mod AskLemmas
pub mod PerformLemmas
-- Passed on from the crates below.
pub use Rattle.spl_statement_code.proofs.hp_word_proofs
pub use Rattle.spl_endings.proofs.hp_yields_proofs
pub use Rattle.spl_endings.proofs as spl_endings_proofs
pub use Rattle.spl_endings.proofs.spl_follow_proofs
pub use Rattle.spl_operands.proofs.spl_values_proofs
