-- In reading order.
pub mod Inners
pub mod Laws
-- Passed on from the crates below.
pub use Rattle.spl_routes.specs as spl_routes
pub use Rattle.spl_routes.specs.spl_routines
pub use Rattle.spl_routes.specs.spl_sites
pub use Rattle.spl_routes.specs.spl_sound_jumps
pub use Rattle.spl_routes.specs.spl_ways
