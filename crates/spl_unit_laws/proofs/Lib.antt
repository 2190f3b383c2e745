pub mod LeftSteps
pub mod InnerParts
pub mod RoutineParts
pub mod RoomWalks
pub mod Declared
pub mod Sequences
pub mod Reaches
pub mod UnitSteps
pub mod UnitWalks
pub mod UnitEnds
pub mod Picks
pub mod UnitMade
pub mod Completes
pub mod OnceLaws
pub mod Modules
-- Passed on from the crates below.
pub use Rattle.spl_routine_code.proofs as spl_routine_code_proofs
pub use Rattle.spl_sound_labels.proofs.spl_lists_proofs
pub use Rattle.spl_sound_labels.proofs.spl_places_proofs
