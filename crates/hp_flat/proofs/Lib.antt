pub mod LineLemmas
pub mod StepKeeping
pub mod RunLaws
-- Passed on from the crates below.
pub use Rattle.hp_memory_rows.proofs as hp_memory_rows_proofs
pub use Rattle.hp_program.proofs as hp_program_proofs
pub use Rattle.hp_stack_rows.proofs as hp_stack_rows_proofs
pub use Rattle.hp_word.proofs as hp_word_proofs
pub use Rattle.hp_word_rows.proofs as hp_word_rows_proofs
