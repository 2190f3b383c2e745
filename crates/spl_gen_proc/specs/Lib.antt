-- Passed on from the crates below.
pub use Rattle.spl_layout.specs as spl_layout
