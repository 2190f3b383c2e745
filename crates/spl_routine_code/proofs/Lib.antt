-- In reading order.
pub mod BodyMarks
mod KnownBodies
pub mod SetMarks
pub mod WholeBodies
pub mod OpenMarks
pub mod InnerWalks
pub mod RoutineSteps
-- Passed on from the crates below.
pub use Rattle.spl_statement_scopes.proofs.spl_body_scopes_proofs
pub use Rattle.spl_module_code.proofs.spl_found_proofs
