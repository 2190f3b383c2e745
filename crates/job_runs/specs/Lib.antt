pub mod Reported
-- Passed on from the crates below.
pub use Rattle.mpe_turns.specs.mpe_overlay
pub use Rattle.mpe_turns.specs as mpe_turns
pub use Rattle.mpe_turns.specs.mpe_worlds
