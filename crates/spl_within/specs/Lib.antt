-- Passed on from the crates below.
pub use Rattle.spl_reading.specs as spl_reading
pub use Rattle.spl_parts.specs as spl_parts
