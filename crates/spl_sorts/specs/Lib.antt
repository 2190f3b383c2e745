pub mod Profiles
pub mod Sorts
pub mod Tables
pub mod Reports
-- Passed on from the crates below.
pub use Rattle.hp_word.specs as hp_word
pub use Rattle.spl_meaning.specs as spl_meaning
