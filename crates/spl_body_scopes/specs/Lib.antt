-- In reading order.
pub mod Bases
pub mod Levels
pub mod Results
pub mod Walks
pub mod Found
pub mod Units
-- Passed on from the crates below.
pub use Rattle.spl_places.specs as spl_places
pub use Rattle.spl_places.specs.spl_found
pub use Rattle.spl_code_scopes.specs as spl_code_scopes
