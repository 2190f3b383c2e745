-- In reading order.
pub mod IndexLemmas
pub mod EntryLemmas
pub mod PartLemmas
pub mod BodyLemmas
pub mod StandLemmas
pub mod LandLemmas
-- Passed on from the crates below.
pub use Rattle.spl_routes.proofs.mpe_segmenter_proofs
pub use Rattle.spl_routes.proofs.spl_label_marks_proofs
pub use Rattle.spl_routes.proofs.spl_routines_proofs
pub use Rattle.spl_routes.proofs.spl_ways_proofs
