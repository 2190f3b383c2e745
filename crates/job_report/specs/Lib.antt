-- In reading order: lines, how a session ended, the report, refusals, and the listing of a program.
pub mod Lines
pub mod Endings
pub mod Reports
pub mod Refusals
pub mod Listings
-- Passed on from the crates below.
pub use Rattle.hp_program.specs as hp_program
pub use Rattle.hp_word.specs as hp_word
