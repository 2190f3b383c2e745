-- In reading order.
pub mod GiveLemmas
pub mod ConstantLemmas
pub mod SeenLemmas
pub mod VariableLemmas
pub mod SumLemmas
pub mod WholeLemmas
-- Passed on from the crates below.
pub use Rattle.hp_yields.proofs.hp_word_proofs
pub use Rattle.hp_yields.proofs as hp_yields_proofs
pub use Rattle.hp_yields.proofs.spl_follow_proofs
