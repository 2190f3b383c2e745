-- In reading order.
pub mod LabelNames
pub mod LabelParts
-- Passed on from the crates below.
pub use Rattle.spl_module_code.proofs.spl_scopes_proofs
