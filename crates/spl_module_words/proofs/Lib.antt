pub mod Sizes
pub mod Bodies
pub mod Declared
pub mod Segments
-- Passed on from the crates below.
pub use Rattle.spl_formed_modules.proofs.mpe_segmenter_proofs
pub use Rattle.spl_few_loops.proofs.spl_cuts_proofs
pub use Rattle.spl_formed_modules.proofs as spl_formed_modules_proofs
pub use Rattle.spl_few_loops.proofs.spl_grammar_proofs
pub use Rattle.spl_formed_modules.proofs.spl_wanted_names_proofs
