-- In reading order.
pub mod Ruled
pub mod Laws
-- Passed on from the crates below.
pub use Rattle.spl_sound_beginnings.specs.hp_word
pub use Rattle.spl_sound_beginnings.specs.spl_found
pub use Rattle.spl_sound_beginnings.specs.spl_meaning
pub use Rattle.spl_sound_beginnings.specs.spl_module_code
pub use Rattle.spl_sound_beginnings.specs.spl_places
pub use Rattle.spl_sound_beginnings.specs.spl_scopes
pub use Rattle.spl_shapes.specs as spl_shapes
pub use Rattle.spl_sound_beginnings.specs.spl_sound
pub use Rattle.spl_sound_beginnings.specs.spl_sound_names
pub use Rattle.spl_shapes.specs.spl_tree
