-- In reading order.
pub mod Laws
-- Passed on from the crates below.
pub use Rattle.spl_body_code.specs as spl_body_code
pub use Rattle.spl_body_code.specs.spl_branch
pub use Rattle.spl_body_code.specs.spl_code
pub use Rattle.spl_body_code.specs.spl_meaning
pub use Rattle.spl_body_code.specs.spl_tree
pub use Rattle.spl_values.specs as spl_values
