-- In reading order.
pub mod PartLaws
pub mod ExpressionLaws
pub mod StatementLaws
pub mod ModuleLaws
-- Passed on from the crates below.
pub use Rattle.spl_module_code.proofs.spl_scopes_proofs
