pub mod Counts
pub mod Fields
pub mod Labels
pub mod Named
pub mod Misused
pub mod Texts
pub mod Walks
-- Passed on from the crates below.
pub use Rattle.spl_found.proofs as spl_found_proofs
