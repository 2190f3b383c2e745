-- In reading order: why nothing is built of units, and what each part of the way answers.
pub mod Unbuilt
pub mod Steps
-- Passed on from the crates below.
pub use Rattle.hp_program.specs as hp_program
pub use Rattle.mpe_segmenter.specs as mpe_segmenter
pub use Rattle.spl_branch.specs as spl_branch
pub use Rattle.spl_built.specs.spl_code
pub use Rattle.spl_sound.specs.spl_meaning
pub use Rattle.spl_built.specs.spl_module_code
pub use Rattle.spl_built.specs.spl_modules
pub use Rattle.spl_built.specs.spl_scopes
pub use Rattle.spl_sound.specs as spl_sound
pub use Rattle.spl_tree.specs as spl_tree
