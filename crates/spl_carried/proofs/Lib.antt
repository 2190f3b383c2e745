-- In reading order.
pub mod MainLemmas
pub mod WholeLemmas
pub mod PieceLemmas
pub mod CarryLemmas
-- Passed on from the crates below.
pub use Rattle.spl_bounds.proofs.mpe_segmenter_proofs
pub use Rattle.spl_callable.proofs as spl_callable_proofs
pub use Rattle.spl_bounds.proofs.spl_places_proofs
pub use Rattle.spl_callable.proofs.spl_scopes_proofs
pub use Rattle.spl_sound_beginnings.proofs.spl_sound_names_proofs
