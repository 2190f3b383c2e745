-- In reading order.
pub mod ControlLemmas
pub mod SequenceLemmas
-- Passed on from the crates below.
pub use Rattle.spl_follow.proofs as spl_follow_proofs
