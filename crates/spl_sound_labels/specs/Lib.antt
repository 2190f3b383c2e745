pub mod Labels
-- Passed on from the crates below.
pub use Rattle.spl_places.specs.spl_meaning
pub use Rattle.spl_places.specs as spl_places
pub use Rattle.spl_places.specs.spl_tree
