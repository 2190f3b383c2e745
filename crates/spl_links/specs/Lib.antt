-- In reading order.
pub mod Links
pub mod Laws
-- Passed on from the crates below.
pub use Rattle.spl_intrinsics.specs.hp_call_rows
pub use Rattle.spl_intrinsics.specs.spl_branch
pub use Rattle.spl_intrinsics.specs.spl_code
pub use Rattle.spl_intrinsics.specs.spl_endings
pub use Rattle.spl_intrinsics.specs.spl_follow
pub use Rattle.spl_intrinsics.specs as spl_intrinsics
pub use Rattle.spl_operators.specs as spl_operators
pub use Rattle.spl_intrinsics.specs.spl_values
