pub mod Entries
-- Passed on from the crates below.
pub use Rattle.spl_sorts.specs.hp_word
pub use Rattle.spl_formals.specs as spl_formals
pub use Rattle.spl_formals.specs.spl_found
pub use Rattle.spl_globals.specs as spl_globals
pub use Rattle.spl_globals.specs.spl_initials
pub use Rattle.spl_sorts.specs.spl_meaning
pub use Rattle.spl_globals.specs.spl_places
pub use Rattle.spl_tree.specs as spl_tree
