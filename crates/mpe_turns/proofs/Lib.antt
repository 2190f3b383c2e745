pub mod StepLemmas
pub mod LoopLemmas
pub mod TurnLemmas
pub mod DispatchLemmas
pub mod OpenLemmas
pub mod EventLemmas
-- Passed on from the crates below.
pub use Rattle.mpe_worlds.proofs as mpe_worlds_proofs
