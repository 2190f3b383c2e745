pub mod Scopes
-- Passed on from the crates below.
pub use Rattle.spl_found.specs as spl_found
