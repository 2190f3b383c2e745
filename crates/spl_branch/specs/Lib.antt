-- In reading order.
pub mod Pieces
pub mod Keys
pub mod Codes
pub mod Branches
pub mod Stands
pub mod Fixes
pub mod Kept
pub mod Modules
pub mod Words
pub mod Rounds
-- Passed on from the crates below.
pub use Rattle.hp_instr.specs as hp_instr
