-- In reading order.
pub mod ResultLemmas
pub mod ScopeLaws
pub mod KnownPlaces
-- Passed on from the crates below.
pub use Rattle.spl_body_scopes.proofs as spl_body_scopes_proofs
pub use Rattle.spl_places.proofs.spl_lists_proofs
