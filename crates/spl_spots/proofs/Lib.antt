pub mod ListWalks
pub mod NameMapLemmas
-- Passed on from the crates below.
pub use Rattle.spl_found.proofs as spl_found_proofs
