-- In reading order.
pub mod Known
pub mod Laws
-- Passed on from the crates below.
pub use Rattle.spl_sound.specs.hp_word
pub use Rattle.spl_found.specs as spl_found
pub use Rattle.spl_sound.specs.spl_meaning
pub use Rattle.spl_sound.specs as spl_sound
pub use Rattle.spl_sound.specs.spl_tree
