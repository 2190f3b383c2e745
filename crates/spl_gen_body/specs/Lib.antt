-- In reading order.
pub mod Counts
pub mod Procedures
pub mod Routines
-- Passed on from the crates below.
pub use Rattle.spl_body_code.specs as spl_body_code
pub use Rattle.spl_body_code.specs.spl_code
pub use Rattle.spl_gen_expr.specs.spl_found
pub use Rattle.spl_gen_expr.specs as spl_gen_expr
pub use Rattle.spl_rooms.specs as spl_rooms
