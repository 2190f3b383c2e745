pub mod Built
-- Passed on from the crates below.
pub use Rattle.spl_formed_modules.specs.mpe_segmenter.hp_program
pub use Rattle.spl_formed_modules.specs.mpe_segmenter
pub use Rattle.spl_formed_modules.specs.spl_branch
pub use Rattle.spl_formed_modules.specs.spl_code
pub use Rattle.spl_formed_modules.specs.spl_module_code.spl_meaning
pub use Rattle.spl_formed_modules.specs.spl_module_code
pub use Rattle.spl_formed_modules.specs.spl_modules
pub use Rattle.spl_formed_modules.specs.spl_scopes
pub use Rattle.spl_formed_modules.specs.spl_module_code.spl_sound
pub use Rattle.spl_formed_modules.specs.spl_tree
