-- In reading order.
pub mod EnteredLemmas
pub mod ModuleLaws
pub mod WalkSteps
-- Passed on from the crates below.
pub use Rattle.spl_places.proofs.spl_found_proofs
pub use Rattle.spl_places.proofs as spl_places_proofs
pub use Rattle.spl_scopes.proofs as spl_scopes_proofs
