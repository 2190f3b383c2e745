-- In reading order.
pub mod StepLemmas
pub mod PushLemmas
pub mod GrantLemmas
-- Passed on from the crates below.
pub use Rattle.spl_body_code.proofs as spl_body_code_proofs
pub use Rattle.spl_values.proofs as spl_values_proofs
