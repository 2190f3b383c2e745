-- Passed on from the crates below.
pub use Rattle.spl_cuts.proofs as spl_cuts_proofs
pub use Rattle.spl_grammar.proofs as spl_grammar_proofs
pub use Rattle.spl_meaning.proofs as spl_meaning_proofs
