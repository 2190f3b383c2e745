-- In reading order.
pub mod BinaryLemmas
pub mod ArgumentLemmas
pub mod LeadLemmas
pub mod CoverLemmas
-- Passed on from the crates below.
pub use Rattle.spl_byte_tests.proofs.spl_addresses_proofs
pub use Rattle.spl_byte_tests.proofs as spl_byte_tests_proofs
pub use Rattle.spl_byte_tests.proofs.spl_doubles_proofs
pub use Rattle.spl_whom.proofs.spl_endings_proofs
pub use Rattle.spl_whom.proofs.spl_intrinsics_proofs
pub use Rattle.spl_whom.proofs.spl_links_proofs
pub use Rattle.spl_byte_tests.proofs.spl_moves_proofs
pub use Rattle.spl_byte_tests.proofs.spl_names_proofs
pub use Rattle.spl_byte_tests.proofs.spl_scans_proofs
pub use Rattle.spl_byte_tests.proofs.spl_tops_proofs
pub use Rattle.spl_byte_tests.proofs.spl_values_proofs
pub use Rattle.spl_whom.proofs as spl_whom_proofs
pub use Rattle.spl_byte_tests.proofs.spl_word_operators_proofs
