pub mod LoopLaws
-- Passed on from the crates below.
pub use Rattle.spl_statement_code.proofs.spl_code_proofs
pub use Rattle.spl_nesting.proofs.spl_cuts_proofs
pub use Rattle.spl_nesting.proofs.spl_grammar_proofs
pub use Rattle.spl_places.proofs as spl_places_proofs
pub use Rattle.spl_statement_code.proofs as spl_statement_code_proofs
