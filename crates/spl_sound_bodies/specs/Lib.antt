-- In reading order.
pub mod Laws
-- Passed on from the crates below.
pub use Rattle.spl_readings.specs.spl_branch
pub use Rattle.spl_cells.specs as spl_cells
pub use Rattle.spl_near_places.specs.spl_fits
pub use Rattle.spl_near_places.specs.spl_initials
pub use Rattle.spl_readings.specs.spl_module_code
pub use Rattle.spl_near_places.specs as spl_near_places
pub use Rattle.spl_readings.specs as spl_readings
pub use Rattle.spl_ruled_bodies.specs as spl_ruled_bodies
pub use Rattle.spl_readings.specs.spl_scopes
pub use Rattle.spl_ruled_bodies.specs.spl_shapes
pub use Rattle.spl_ruled_bodies.specs.spl_sound
pub use Rattle.spl_readings.specs.spl_tree
