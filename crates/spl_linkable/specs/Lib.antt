pub mod Linkable
-- Passed on from the crates below.
pub use Rattle.spl_module_names.specs.mpe_segmenter
pub use Rattle.spl_module_names.specs.spl_branch
pub use Rattle.spl_module_names.specs.spl_built
pub use Rattle.spl_module_names.specs as spl_module_names
pub use Rattle.spl_module_words.specs.spl_places
