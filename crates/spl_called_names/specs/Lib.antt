-- In reading order.
pub mod Called
pub mod Laws
-- Passed on from the crates below.
pub use Rattle.spl_module_code.specs.spl_body_code
pub use Rattle.spl_module_code.specs.spl_modules
pub use Rattle.spl_module_code.specs.spl_scopes
