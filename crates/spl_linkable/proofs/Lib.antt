pub mod LinkLaws
-- Passed on from the crates below.
pub use Rattle.spl_module_names.proofs as spl_module_names_proofs
