pub mod Words
-- Passed on from the crates below.
pub use Rattle.spl_formed_modules.specs.mpe_segmenter
pub use Rattle.spl_formed_modules.specs.spl_branch
pub use Rattle.spl_formed_modules.specs.spl_code
pub use Rattle.spl_few_loops.specs.spl_cuts
pub use Rattle.spl_few_loops.specs.spl_grammar
pub use Rattle.spl_fits.specs.spl_initials
pub use Rattle.spl_formed_modules.specs.spl_module_code
pub use Rattle.spl_few_loops.specs.spl_places
pub use Rattle.spl_few_loops.specs.spl_reading
pub use Rattle.spl_few_loops.specs.spl_sound
