-- In reading order.
pub mod LabelsOfBodies
pub mod Bodies
pub mod Modules
-- Passed on from the crates below.
pub use Rattle.spl_statement_code.specs.hp_instr
pub use Rattle.spl_statement_code.specs.hp_word
pub use Rattle.spl_body_code.specs as spl_body_code
pub use Rattle.spl_statement_code.specs.spl_branch
pub use Rattle.spl_statement_code.specs.spl_code
pub use Rattle.spl_modules.specs.spl_found
pub use Rattle.spl_statement_code.specs.spl_meaning
pub use Rattle.spl_modules.specs as spl_modules
pub use Rattle.spl_modules.specs.spl_places
pub use Rattle.spl_modules.specs.spl_scopes
pub use Rattle.spl_modules.specs.spl_sound
pub use Rattle.spl_statement_code.specs as spl_statement_code
pub use Rattle.spl_statement_code.specs.spl_tree
