-- In reading order.
pub mod Entries
pub mod Scopes
pub mod ProgramBodies
-- Passed on from the crates below.
pub use Rattle.spl_code.specs as spl_code
