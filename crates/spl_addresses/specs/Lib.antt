-- In reading order.
pub mod Laws
-- Passed on from the crates below.
pub use Rattle.spl_variables.specs.spl_follow
pub use Rattle.spl_variables.specs.spl_values
