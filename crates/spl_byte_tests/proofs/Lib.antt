-- In reading order.
pub mod CompareLemmas
pub mod TestLemmas
pub mod LeadLemmas
-- Passed on from the crates below.
pub use Rattle.spl_names.proofs.hp_word_proofs
pub use Rattle.spl_names.proofs.spl_addresses_proofs
pub use Rattle.spl_names.proofs.spl_doubles_proofs
pub use Rattle.spl_scans.proofs.spl_moves_proofs
pub use Rattle.spl_names.proofs as spl_names_proofs
pub use Rattle.spl_scans.proofs as spl_scans_proofs
pub use Rattle.spl_names.proofs.spl_tops_proofs
pub use Rattle.spl_scans.proofs.spl_values_proofs
pub use Rattle.spl_names.proofs.spl_word_operators_proofs
