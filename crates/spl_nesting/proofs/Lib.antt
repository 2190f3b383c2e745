pub mod Bodies
pub mod Chains
pub mod NestingLaws
pub mod HeightBounds
pub mod HighChains
pub mod HeightLaws
mod KnownNesting
-- Passed on from the crates below.
pub use Rattle.spl_sound.proofs.spl_cuts_proofs
pub use Rattle.spl_sound.proofs.spl_grammar_proofs
