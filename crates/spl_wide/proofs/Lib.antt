-- In reading order.
pub mod TargetLemmas
pub mod AssignLemmas
-- Passed on from the crates below.
pub use Rattle.spl_targets.proofs.spl_covered_proofs
pub use Rattle.spl_targets.proofs.spl_doubles_proofs
pub use Rattle.spl_targets.proofs.spl_follow_proofs
pub use Rattle.spl_targets.proofs.spl_intrinsics_proofs
pub use Rattle.spl_targets.proofs.spl_names_proofs
pub use Rattle.spl_targets.proofs.spl_operands_proofs
pub use Rattle.spl_targets.proofs as spl_targets_proofs
pub use Rattle.spl_targets.proofs.spl_tops_proofs
pub use Rattle.spl_targets.proofs.spl_values_proofs
pub use Rattle.spl_targets.proofs.spl_variables_proofs
pub use Rattle.spl_targets.proofs.spl_whom_proofs
pub use Rattle.spl_targets.proofs.spl_word_operators_proofs
