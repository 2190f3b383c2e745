pub mod Laws
-- Passed on from the crates below.
pub use Rattle.mpe_segmenter.specs.hp_instr
pub use Rattle.mpe_segmenter.specs as mpe_segmenter
pub use Rattle.spl_wanted_names.specs.spl_body_code
pub use Rattle.mpe_segmenter.specs.spl_branch
pub use Rattle.spl_wanted_names.specs.spl_code
pub use Rattle.spl_wanted_names.specs.spl_module_code
pub use Rattle.spl_wanted_names.specs.spl_modules
pub use Rattle.spl_wanted_names.specs.spl_scopes
pub use Rattle.mpe_segmenter.specs.spl_tree
