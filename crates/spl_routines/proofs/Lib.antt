-- In reading order.
pub mod ListLemmas
pub mod BodyLemmas
pub mod EntryLemmas
pub mod PartLemmas
pub mod PieceLemmas
pub mod ModuleLemmas
pub mod StandLemmas
pub mod ThereLemmas
pub mod RoutineLemmas
pub mod GateLemmas
-- Passed on from the crates below.
pub use Rattle.spl_ways.proofs.mpe_segmenter_proofs
pub use Rattle.spl_complete_codes.proofs.spl_call_indexes_proofs
pub use Rattle.spl_endings.proofs as spl_endings_proofs
pub use Rattle.spl_label_marks.proofs as spl_label_marks_proofs
pub use Rattle.spl_label_marks.proofs.spl_scopes_proofs
pub use Rattle.spl_ways.proofs as spl_ways_proofs
