pub mod FormalWalks
-- Passed on from the crates below.
pub use Rattle.spl_lists.proofs as spl_lists_proofs
