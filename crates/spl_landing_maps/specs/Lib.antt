pub mod Landings
-- Passed on from the crates below.
pub use Rattle.spl_statement_code.specs as spl_statement_code
pub use Rattle.spl_spots.specs as spl_spots
