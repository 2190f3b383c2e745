-- In reading order.
mod KnownFrames
mod KnownCells
mod KnownBodies
pub mod CountLemmas
pub mod ListLaws
pub mod BodyLaws
pub mod CellLaws
pub mod ZeroLaws
pub mod JoinLaws
-- Passed on from the crates below.
pub use Rattle.spl_code.proofs.hp_word_proofs
pub use Rattle.spl_code.proofs as spl_code_proofs
