pub mod WaitingNames
pub mod SameFormal
pub mod HeadTables
pub mod Forwards
pub mod OtherUnits
pub mod Insides
pub mod Procedures
pub mod UnitParts
pub mod Checking
-- Passed on from the crates below.
pub use Rattle.spl_sound.specs.spl_meaning
pub use Rattle.spl_sound.specs as spl_sound
