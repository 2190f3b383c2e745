-- In reading order.
pub mod Kinds
pub mod Laws
-- Passed on from the crates below.
pub use Rattle.spl_module_code.specs.spl_body_code
pub use Rattle.spl_module_code.specs.spl_branch
pub use Rattle.spl_module_code.specs as spl_module_code
pub use Rattle.spl_module_code.specs.spl_places
pub use Rattle.spl_module_code.specs.spl_scopes
pub use Rattle.spl_sites.specs as spl_sites
pub use Rattle.spl_sites.specs.spl_stands
