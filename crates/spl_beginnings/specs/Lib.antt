-- In reading order.
pub mod Opens
pub mod Found
pub mod Laws
-- Passed on from the crates below.
pub use Rattle.spl_statement_code.specs.spl_code
pub use Rattle.spl_statement_code.specs as spl_statement_code
