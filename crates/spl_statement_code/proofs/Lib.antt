-- In reading order.
mod KnownNames
mod KnownChoices
mod KnownLoops
mod KnownJumps
mod KnownAssignments
mod KnownEffects
mod KnownCalls
pub mod CountLemmas
pub mod CountLaws
-- Passed on from the crates below.
pub use Rattle.spl_code.proofs.hp_word_proofs
pub use Rattle.spl_code.proofs as spl_code_proofs
