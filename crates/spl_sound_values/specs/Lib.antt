-- In reading order.
pub mod Seen
pub mod Laws
-- Passed on from the crates below.
pub use Rattle.spl_covered.specs.spl_byte_tests
pub use Rattle.spl_near_places.specs.spl_code
pub use Rattle.spl_covered.specs as spl_covered
pub use Rattle.spl_near_places.specs.spl_meaning
pub use Rattle.spl_covered.specs.spl_names
pub use Rattle.spl_near_places.specs as spl_near_places
pub use Rattle.spl_near_places.specs.spl_places
pub use Rattle.spl_near_places.specs.spl_scopes
pub use Rattle.spl_shapes.specs as spl_shapes
pub use Rattle.spl_covered.specs.spl_tops
pub use Rattle.spl_shapes.specs.spl_tree
pub use Rattle.spl_covered.specs.spl_whom
