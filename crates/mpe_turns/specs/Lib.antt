-- In reading order: for which session of a world a session stands, for which world a monitor does, how it opens and why it does
-- not, what the steps of a turn make, and what a turn answers.
pub mod Stands
pub mod Monitors
pub mod Opening
pub mod Opened
pub mod Steps
pub mod Answers
-- Passed on from the crates below.
pub use Rattle.mpe_gate.specs.hp_tos
pub use Rattle.mpe_overlay.specs as mpe_overlay
pub use Rattle.mpe_worlds.specs as mpe_worlds
