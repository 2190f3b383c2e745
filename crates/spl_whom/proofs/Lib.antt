-- In reading order.
pub mod NameLemmas
pub mod CallLemmas
-- Passed on from the crates below.
pub use Rattle.spl_links.proofs.spl_conditions_proofs
pub use Rattle.spl_links.proofs.spl_endings_proofs
pub use Rattle.spl_links.proofs.spl_intrinsics_proofs
pub use Rattle.spl_links.proofs as spl_links_proofs
pub use Rattle.spl_links.proofs.spl_operators_proofs
