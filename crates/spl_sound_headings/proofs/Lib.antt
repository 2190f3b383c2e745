pub mod Declared
pub mod Alike
pub mod Inner
pub mod Units
-- Passed on from the crates below.
pub use Rattle.spl_routes.proofs as spl_routes_proofs
pub use Rattle.spl_routes.proofs.spl_routines_proofs
pub use Rattle.spl_ruled_bodies.proofs as spl_ruled_bodies_proofs
