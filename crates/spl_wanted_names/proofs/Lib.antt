pub mod PartLaws
pub mod Intrinsics
pub mod Expressions
pub mod Statements
pub mod Bodies
pub mod Modules
-- Passed on from the crates below.
pub use Rattle.spl_module_code.proofs.spl_body_code_proofs
pub use Rattle.spl_few_calls.proofs as spl_few_calls_proofs
