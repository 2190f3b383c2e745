-- In reading order.
pub mod SameLemmas
pub mod ResultLemmas
pub mod OwnLemmas
pub mod ElementLemmas
pub mod LeadLemmas
pub mod FieldLemmas
pub mod ResultFieldLemmas
pub mod TargetLemmas
-- Passed on from the crates below.
pub use Rattle.spl_covered.proofs as spl_covered_proofs
pub use Rattle.spl_covered.proofs.spl_doubles_proofs
pub use Rattle.spl_covered.proofs.spl_endings_proofs
pub use Rattle.spl_top_fields.proofs.spl_follow_proofs
pub use Rattle.spl_covered.proofs.spl_intrinsics_proofs
pub use Rattle.spl_covered.proofs.spl_links_proofs
pub use Rattle.spl_covered.proofs.spl_names_proofs
pub use Rattle.spl_top_fields.proofs.spl_operands_proofs
pub use Rattle.spl_covered.proofs.spl_tops_proofs
pub use Rattle.spl_covered.proofs.spl_values_proofs
pub use Rattle.spl_top_fields.proofs.spl_variables_proofs
pub use Rattle.spl_covered.proofs.spl_whom_proofs
pub use Rattle.spl_covered.proofs.spl_word_operators_proofs
pub use Rattle.spl_top_stores.proofs as spl_top_stores_proofs
