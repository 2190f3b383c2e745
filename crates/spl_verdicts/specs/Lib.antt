pub mod PartVerdicts
-- Passed on from the crates below.
pub use Rattle.spl_grammar.specs as spl_grammar
