pub mod Spelled
-- Passed on from the crates below.
pub use Rattle.spl_meaning.specs.hp_word
pub use Rattle.spl_cuts.specs as spl_cuts
pub use Rattle.spl_grammar.specs as spl_grammar
pub use Rattle.spl_meaning.specs as spl_meaning
pub use Rattle.spl_grammar.specs.spl_reading
pub use Rattle.spl_tree.specs as spl_tree
