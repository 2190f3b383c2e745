-- In reading order: a valid program, the words of its segments, and what a store of code answers.
pub mod Valid
pub mod Programs
pub mod Stores
-- Passed on from the crates below.
pub use Rattle.hp_instr.specs as hp_instr
