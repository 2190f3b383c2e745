pub mod Laws
-- Passed on from the crates below.
pub use Rattle.spl_safe_values.specs as spl_safe_values
pub use Rattle.spl_safe_values.specs.spl_code
pub use Rattle.spl_safe_values.specs.spl_meaning
pub use Rattle.spl_safe_values.specs.spl_names
pub use Rattle.spl_safe_values.specs.spl_tree
pub use Rattle.spl_stores.specs as spl_stores
