-- In reading order: what a world is, how it opens, what a step, a turn and an eviction make of it, whose turn is next, what
-- events make of it, and that each session goes on as if it ran alone.
pub mod Worlds
pub mod Opening
pub mod RunSteps
pub mod Turns
pub mod Dispatch
pub mod Events
pub mod Alone
-- Passed on from the crates below.
pub use Rattle.hp_cpu.specs.hp_calls
pub use Rattle.hp_cpu.specs as hp_cpu
pub use Rattle.hp_cpu.specs.hp_flat
