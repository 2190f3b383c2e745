pub mod Answers
-- Passed on from the crates below.
pub use Rattle.spl_grammar.specs as spl_grammar
pub use Rattle.spl_grammar.specs.spl_reading
pub use Rattle.spl_tokens.specs as spl_tokens
