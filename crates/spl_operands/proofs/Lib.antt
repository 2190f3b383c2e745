-- In reading order.
pub mod SeeLemmas
pub mod OperandLemmas
pub mod SeenLemmas
pub mod LoadLemmas
pub mod ReadLemmas
pub mod StoreLemmas
pub mod AssignLemmas
-- Passed on from the crates below.
pub use Rattle.spl_values.proofs.hp_word_proofs
pub use Rattle.spl_values.proofs.hp_yields_proofs
pub use Rattle.spl_values.proofs.spl_follow_proofs
pub use Rattle.spl_values.proofs as spl_values_proofs
