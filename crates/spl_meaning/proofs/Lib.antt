pub mod Tame
pub mod TameReferences
pub mod TameElements
pub mod TameValues
pub mod TameStatements
pub mod RunLaws
pub mod FirstFaults
pub mod RuleKinds
-- Passed on from the crates below.
pub use Rattle.hp_word.proofs as hp_word_proofs
