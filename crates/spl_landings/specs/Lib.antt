pub mod Labels
-- Passed on from the crates below.
pub use Rattle.spl_module_code.specs as spl_module_code
