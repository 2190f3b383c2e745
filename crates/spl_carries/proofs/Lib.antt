mod KnownCarries
-- Passed on from the crates below.
pub use Rattle.hp_flat.proofs as hp_flat_proofs
pub use Rattle.hp_flat.proofs.hp_program_proofs
pub use Rattle.spl_meaning.proofs as spl_meaning_proofs
