-- In reading order.
pub mod Calls
pub mod Laws
-- Passed on from the crates below.
pub use Rattle.spl_frames.specs as spl_frames
pub use Rattle.spl_safe_statements.specs.spl_meaning
pub use Rattle.spl_safe_statements.specs as spl_safe_statements
