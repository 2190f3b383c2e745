pub mod Loops
-- Passed on from the crates below.
pub use Rattle.spl_nesting.specs.spl_cuts
pub use Rattle.spl_nesting.specs.spl_grammar
pub use Rattle.spl_statement_code.specs.spl_meaning
pub use Rattle.spl_places.specs as spl_places
pub use Rattle.spl_nesting.specs.spl_reading
pub use Rattle.spl_nesting.specs.spl_sound
pub use Rattle.spl_statement_code.specs as spl_statement_code
