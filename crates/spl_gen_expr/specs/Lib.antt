pub mod Marks
pub mod Phrases
-- Passed on from the crates below.
pub use Rattle.spl_code_scopes.specs as spl_code_scopes
pub use Rattle.spl_uses.specs.spl_found
