pub mod TokenViews
pub mod DefineViews
pub mod StateViews
pub mod ReaderViews
-- Passed on from the crates below.
pub use Rattle.spl_pieces.specs as spl_pieces
