pub mod CloseReaders
pub mod CloseOperands
pub mod CloseExpressions
pub mod PartChains
pub mod PartVerdictLaws
-- Passed on from the crates below.
pub use Rattle.spl_grammar.proofs as spl_grammar_proofs
