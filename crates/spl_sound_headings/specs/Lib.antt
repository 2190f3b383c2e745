-- In reading order.
pub mod Laws
-- Passed on from the crates below.
pub use Rattle.spl_routes.specs as spl_routes
pub use Rattle.spl_routes.specs.spl_routines
