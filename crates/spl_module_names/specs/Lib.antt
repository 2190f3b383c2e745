-- In reading order.
pub mod Outlines
pub mod Faults
-- Passed on from the crates below.
pub use Rattle.spl_built.specs.hp_program
pub use Rattle.spl_built.specs.mpe_segmenter
pub use Rattle.spl_built.specs.spl_branch
pub use Rattle.spl_built.specs as spl_built
pub use Rattle.spl_built.specs.spl_meaning
pub use Rattle.spl_built.specs.spl_sound
