-- Passed on from the crates below.
pub use Rattle.spl_formed_modules.proofs as spl_formed_modules_proofs
