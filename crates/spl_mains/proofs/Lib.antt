-- In reading order.
pub mod MainLemmas
pub mod InnerLemmas
-- Passed on from the crates below.
pub use Rattle.spl_followed.proofs.spl_follow_proofs
