-- In reading order: for which session a processor stands, which intrinsic a step calls, in which phase it leaves, how the registers' numbers move, what is
-- said of one word, and what is said of a step.
pub mod Stood
pub mod Gates
pub mod Left
pub mod Counts
pub mod Answers
pub mod Restored
pub mod Acts
pub mod Came
pub mod Steps
pub mod Suits
-- Passed on from the crates below.
pub use Rattle.hp_calls.specs as hp_calls
pub use Rattle.hp_flat.specs as hp_flat
pub use Rattle.hp_instr.specs as hp_instr
pub use Rattle.hp_memref.specs as hp_memref
pub use Rattle.hp_program.specs as hp_program
pub use Rattle.hp_rows.specs as hp_rows
pub use Rattle.hp_session.specs as hp_session
pub use Rattle.hp_flat.specs.hp_stack_rows
pub use Rattle.hp_stackops.specs as hp_stackops
pub use Rattle.hp_tos.specs as hp_tos
pub use Rattle.hp_word.specs as hp_word
