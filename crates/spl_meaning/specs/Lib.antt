pub mod Names
pub mod Kinds
pub mod Stops
pub mod Tables
pub mod Places
pub mod Pending
pub mod States
pub mod References
pub mod Operations
pub mod Elements
pub mod Serving
pub mod Values
pub mod Statements
pub mod Bodies
pub mod Runs
pub mod Faults
pub mod ExpressionRules
pub mod StatementRules
pub mod DeclarationRules
pub mod Sound
pub mod Limits
pub mod Bound
pub mod Laws
-- Passed on from the crates below.
pub use Rattle.hp_word.specs as hp_word
pub use Rattle.spl_tree.specs as spl_tree
