-- In reading order.
pub mod AddressLemmas
pub mod ElementLemmas
-- Passed on from the crates below.
pub use Rattle.spl_variables.proofs.spl_operands_proofs
pub use Rattle.spl_variables.proofs.spl_values_proofs
pub use Rattle.spl_variables.proofs as spl_variables_proofs
