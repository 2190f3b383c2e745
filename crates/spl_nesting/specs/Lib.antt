pub mod Nesting
pub mod NestingLaws
pub mod Heights
pub mod HeightLaws
-- Passed on from the crates below.
pub use Rattle.spl_sound.specs.spl_cuts
pub use Rattle.spl_sound.specs.spl_grammar
pub use Rattle.spl_sound.specs.spl_reading
pub use Rattle.spl_sound.specs as spl_sound
