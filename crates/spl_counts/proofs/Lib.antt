-- In reading order.
pub mod StoreLemmas
pub mod TestLemmas
pub mod TurnLemmas
pub mod HeadLemmas
pub mod CountLemmas
-- Passed on from the crates below.
pub use Rattle.spl_choices.proofs as spl_choices_proofs
pub use Rattle.spl_choices.proofs.spl_control_proofs
pub use Rattle.spl_choices.proofs.spl_follow_proofs
pub use Rattle.spl_tops.proofs.spl_values_proofs
