-- In reading order.
pub mod Generates
pub mod Bodies
pub mod Scoped
pub mod Routines
-- Passed on from the crates below.
pub use Rattle.spl_label_marks.specs.spl_body_code
pub use Rattle.spl_statement_scopes.specs.spl_body_scopes
pub use Rattle.spl_branch.specs as spl_branch
pub use Rattle.spl_label_marks.specs.spl_code
pub use Rattle.spl_module_code.specs.spl_found
pub use Rattle.spl_statement_scopes.specs.spl_places
pub use Rattle.spl_rooms.specs as spl_rooms
pub use Rattle.spl_statement_scopes.specs.spl_scopes
pub use Rattle.spl_sorts.specs as spl_sorts
pub use Rattle.spl_statement_scopes.specs as spl_statement_scopes
