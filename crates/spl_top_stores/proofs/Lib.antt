-- In reading order.
pub mod OverLemmas
pub mod PutLemmas
pub mod AnswerLemmas
-- Passed on from the crates below.
pub use Rattle.spl_tops.proofs as spl_tops_proofs
