pub mod FitLaws
pub mod BehindLaws
-- Passed on from the crates below.
pub use Rattle.spl_globals.proofs.spl_places_proofs
pub use Rattle.spl_depths.proofs as spl_depths_proofs
