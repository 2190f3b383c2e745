-- In reading order.
pub mod Begun
pub mod Slots
-- Passed on from the crates below.
pub use Rattle.spl_module_code.specs as spl_module_code
pub use Rattle.spl_module_code.specs.spl_modules
