-- In reading order.
pub mod TimeLemmas
pub mod WayLaws
pub mod LogLaws
pub mod OpeningLaws
pub mod MainLaws
-- Passed on from the crates below.
pub use Rattle.spl_follow.proofs as spl_follow_proofs
