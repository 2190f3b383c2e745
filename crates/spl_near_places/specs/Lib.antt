-- In reading order.
pub mod Near
pub mod Laws
-- Passed on from the crates below.
pub use Rattle.spl_sound_names.specs.hp_word
pub use Rattle.spl_scopes.specs.spl_code
pub use Rattle.spl_fits.specs as spl_fits
pub use Rattle.spl_fits.specs.spl_initials
pub use Rattle.spl_sound_names.specs.spl_meaning
pub use Rattle.spl_fits.specs.spl_places
pub use Rattle.spl_scopes.specs as spl_scopes
pub use Rattle.spl_sound_names.specs as spl_sound_names
