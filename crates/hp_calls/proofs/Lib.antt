pub mod TableLemmas
pub mod PhaseLaws
mod KnownTransfers
-- Passed on from the crates below.
pub use Rattle.hp_call_rows.proofs as hp_call_rows_proofs
