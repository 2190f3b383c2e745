-- In reading order.
pub mod CalleeLemmas
-- Passed on from the crates below.
pub use Rattle.spl_subroutines.proofs.hp_steady_proofs
pub use Rattle.spl_links.proofs.spl_endings_proofs
pub use Rattle.spl_subroutines.proofs.spl_grants_proofs
