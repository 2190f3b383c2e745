-- In reading order.
pub mod FindLemmas
pub mod WantLemmas
pub mod NameLemmas
pub mod LandLemmas
-- Passed on from the crates below.
pub use Rattle.spl_routines.proofs.mpe_segmenter_proofs
pub use Rattle.spl_routines.proofs.spl_call_indexes_proofs
pub use Rattle.spl_routines.proofs.spl_endings_proofs
pub use Rattle.spl_routines.proofs.spl_label_marks_proofs
pub use Rattle.spl_routines.proofs as spl_routines_proofs
pub use Rattle.spl_routines.proofs.spl_ways_proofs
