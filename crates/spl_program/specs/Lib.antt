-- In reading order: the kinds of faults of tokens, how the texts of units are cut and spelled, and what they come to together.
pub mod Kinds
pub mod Texts
pub mod Programs
pub mod Steps
-- Passed on from the crates below.
pub use Rattle.spl_cuts.specs as spl_cuts
pub use Rattle.spl_sound.specs.spl_grammar
pub use Rattle.spl_sound.specs.spl_meaning
pub use Rattle.spl_sound.specs.spl_reading
pub use Rattle.spl_sound.specs as spl_sound
