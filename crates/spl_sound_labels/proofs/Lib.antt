pub mod LabelLaws
pub mod InnerLaws
-- Passed on from the crates below.
pub use Rattle.spl_places.proofs.spl_lists_proofs
pub use Rattle.spl_places.proofs as spl_places_proofs
