pub mod Segments
pub mod Carries
-- Passed on from the crates below.
pub use Rattle.hp_flat.specs.hp_call_rows
pub use Rattle.hp_flat.specs as hp_flat
pub use Rattle.hp_flat.specs.hp_instr
pub use Rattle.hp_flat.specs.hp_program
pub use Rattle.hp_flat.specs.hp_session
pub use Rattle.hp_flat.specs.hp_word
pub use Rattle.spl_meaning.specs as spl_meaning
pub use Rattle.spl_meaning.specs.spl_tree
