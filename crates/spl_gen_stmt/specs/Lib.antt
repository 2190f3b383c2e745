pub mod Contexts
-- Passed on from the crates below.
pub use Rattle.spl_gen_expr.specs.spl_found
pub use Rattle.spl_gen_expr.specs as spl_gen_expr
pub use Rattle.spl_sorts.specs.spl_meaning
pub use Rattle.spl_landing_maps.specs as spl_landing_maps
pub use Rattle.spl_operations.specs.spl_spots
pub use Rattle.spl_statement_code.specs as spl_statement_code
