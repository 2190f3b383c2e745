-- In reading order.
pub mod Covered
pub mod Laws
-- Passed on from the crates below.
pub use Rattle.spl_assigned.specs as spl_assigned
pub use Rattle.spl_calls.specs as spl_calls
pub use Rattle.spl_calls.specs.spl_field_stores
pub use Rattle.spl_jumps.specs as spl_jumps
pub use Rattle.spl_moved.specs.spl_links
pub use Rattle.spl_moved.specs as spl_moved
pub use Rattle.spl_moved.specs.spl_names
pub use Rattle.spl_counts.specs.spl_operators
pub use Rattle.spl_counts.specs.spl_statement_code
pub use Rattle.spl_calls.specs.spl_targets
pub use Rattle.spl_counts.specs.spl_values
pub use Rattle.spl_assigned.specs.spl_wide
