-- In reading order.
pub mod Laws
-- Passed on from the crates below.
pub use Rattle.spl_linked_values.specs as spl_linked_values
pub use Rattle.spl_safe_parts.specs as spl_safe_parts
