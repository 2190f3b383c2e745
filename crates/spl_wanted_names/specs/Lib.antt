-- In reading order.
pub mod Wants
pub mod Counts
pub mod Laws
-- Passed on from the crates below.
pub use Rattle.spl_module_code.specs.hp_word
pub use Rattle.spl_module_code.specs.spl_body_code
pub use Rattle.spl_module_code.specs.spl_code
pub use Rattle.spl_few_calls.specs as spl_few_calls
pub use Rattle.spl_module_code.specs.spl_meaning
pub use Rattle.spl_module_code.specs as spl_module_code
pub use Rattle.spl_module_code.specs.spl_modules
pub use Rattle.spl_module_code.specs.spl_scopes
pub use Rattle.spl_few_calls.specs.spl_sound
