-- In reading order.
mod KnownNames
mod KnownValues
mod KnownTests
mod KnownReferences
mod KnownCalls
mod KnownStores
pub mod AppendLaws
pub mod CountLemmas
pub mod CountLaws
-- Passed on from the crates below.
pub use Rattle.spl_meaning.proofs.hp_word_proofs
