-- In reading order.
pub mod MarkLemmas
pub mod WantLemmas
pub mod TextLemmas
pub mod Joins
pub mod ExpressionLemmas
pub mod ViewLemmas
pub mod WordCounts
-- Passed on from the crates below.
pub use Rattle.spl_uses.proofs.spl_found_proofs
