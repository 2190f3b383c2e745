pub mod Following
pub mod Answers
pub mod ExpressionLaws
pub mod StatementLaws
pub mod UnitLaws
pub mod Ends
pub mod Verdicts
-- Passed on from the crates below.
pub use Rattle.spl_reading.specs as spl_reading
pub use Rattle.spl_reading.specs.spl_tree
