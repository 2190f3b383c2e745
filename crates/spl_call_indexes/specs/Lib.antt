-- In reading order.
pub mod Indexes
pub mod Laws
-- Passed on from the crates below.
pub use Rattle.spl_module_code.specs.spl_branch
pub use Rattle.spl_module_code.specs as spl_module_code
pub use Rattle.spl_module_code.specs.spl_modules
pub use Rattle.spl_module_code.specs.spl_scopes
