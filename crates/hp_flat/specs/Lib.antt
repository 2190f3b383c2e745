-- In reading order: the step and the run, what a `Flat` stands for, and how it opens.
pub mod Step
pub mod FlatView
pub mod Views
-- Passed on from the crates below.
pub use Rattle.hp_call_rows.specs as hp_call_rows
pub use Rattle.hp_instr.specs as hp_instr
pub use Rattle.hp_memory_rows.specs as hp_memory_rows
pub use Rattle.hp_program.specs as hp_program
pub use Rattle.hp_session.specs as hp_session
pub use Rattle.hp_stack_rows.specs as hp_stack_rows
pub use Rattle.hp_word.specs as hp_word
pub use Rattle.hp_word_rows.specs as hp_word_rows
