-- In reading order.
pub mod ValueLemmas
pub mod RunLemmas
-- Passed on from the crates below.
pub use Rattle.spl_module_code.proofs.spl_places_proofs
pub use Rattle.spl_module_code.proofs.spl_scopes_proofs
