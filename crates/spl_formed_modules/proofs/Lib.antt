pub mod Closings
pub mod ClosedModules
pub mod Laid
pub mod Offsets
pub mod Formed
pub mod Counted
pub mod Few
-- Passed on from the crates below.
pub use Rattle.mpe_segmenter.proofs as mpe_segmenter_proofs
pub use Rattle.spl_wanted_names.proofs.spl_body_code_proofs
pub use Rattle.mpe_segmenter.proofs.spl_branch_proofs
pub use Rattle.spl_wanted_names.proofs as spl_wanted_names_proofs
