pub mod Tables
pub mod Covers
pub mod Own
pub mod Modules
pub mod Entries
pub mod Words
pub mod Order
pub mod Few
pub mod Data
pub mod Programs
-- Passed on from the crates below.
pub use Rattle.spl_module_words.proofs.mpe_segmenter_proofs
pub use Rattle.spl_module_words.proofs.spl_cuts_proofs
pub use Rattle.spl_module_words.proofs.spl_formed_modules_proofs
pub use Rattle.spl_module_words.proofs.spl_grammar_proofs
pub use Rattle.spl_sound_labels.proofs.spl_places_proofs
