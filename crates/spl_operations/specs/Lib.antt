pub mod Views
-- Passed on from the crates below.
pub use Rattle.spl_code.specs as spl_code
pub use Rattle.spl_spots.specs as spl_spots
