-- In reading order.
pub mod NameLemmas
pub mod PlaceLemmas
pub mod PartLemmas
pub mod EntryLemmas
pub mod CountLemmas
pub mod HomeLemmas
pub mod FitLemmas
pub mod LabelLemmas
pub mod LayLemmas
pub mod GatherLemmas
pub mod DefinedLemmas
pub mod LaidLemmas
pub mod SegmentLaws
pub mod WholeLemmas
pub mod ValidLemmas
pub mod PrepareLemmas
pub mod SiteLaws
pub mod KnownFaults
-- Passed on from the crates below.
pub use Rattle.hp_program.proofs as hp_program_proofs
pub use Rattle.spl_branch.proofs as spl_branch_proofs
