pub mod ListLemmas
pub mod CountLemmas
pub mod RunLaws
pub mod AloneLaws
mod KnownWorlds
-- Passed on from the crates below.
pub use Rattle.hp_cpu.proofs.hp_flat_proofs
