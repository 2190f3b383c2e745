-- In reading order.
pub mod Known
pub mod Steps
pub mod Units
pub mod Begins
pub mod Laws
-- Passed on from the crates below.
pub use Rattle.spl_routine_code.specs.spl_body_scopes
pub use Rattle.spl_routine_code.specs.spl_code
pub use Rattle.spl_routine_code.specs.spl_found
pub use Rattle.spl_routine_code.specs as spl_routine_code
pub use Rattle.spl_unit_codes.specs.spl_module_code
pub use Rattle.spl_unit_codes.specs.spl_modules
pub use Rattle.spl_sound_labels.specs.spl_places
pub use Rattle.spl_routine_code.specs.spl_scopes
pub use Rattle.spl_routine_code.specs.spl_sorts
pub use Rattle.spl_unit_codes.specs as spl_unit_codes
