-- In reading order.
pub mod RowLemmas
pub mod NearLemmas
-- Passed on from the crates below.
pub use Rattle.hp_steady.proofs as hp_steady_proofs
