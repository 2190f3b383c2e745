-- In reading order.
pub mod Levels
pub mod Scopes
-- Passed on from the crates below.
pub use Rattle.spl_body_scopes.specs as spl_body_scopes
pub use Rattle.spl_places.specs as spl_places
pub use Rattle.spl_module_code.specs.spl_scopes
