-- In reading order.
pub mod Beyond
pub mod Expressions
pub mod Statements
pub mod Units
pub mod Texts
-- Passed on from the crates below.
pub use Rattle.spl_bounds.proofs as spl_bounds_proofs
