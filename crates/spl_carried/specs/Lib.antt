-- In reading order.
pub mod Covered
pub mod Laws
-- Passed on from the crates below.
pub use Rattle.spl_bounds.specs.hp_program
pub use Rattle.spl_bounds.specs.mpe_segmenter
pub use Rattle.spl_bounds.specs as spl_bounds
pub use Rattle.spl_bounds.specs.spl_branch
pub use Rattle.spl_callable.specs as spl_callable
pub use Rattle.spl_bounds.specs.spl_carries
pub use Rattle.spl_bounds.specs.spl_meaning
pub use Rattle.spl_bounds.specs.spl_module_code
pub use Rattle.spl_callable.specs.spl_modules
pub use Rattle.spl_bounds.specs.spl_places
pub use Rattle.spl_bounds.specs.spl_scopes
pub use Rattle.spl_bounds.specs.spl_tree
