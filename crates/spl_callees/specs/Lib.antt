-- In reading order.
pub mod Callees
-- Passed on from the crates below.
pub use Rattle.spl_subroutines.specs.hp_steady
pub use Rattle.spl_cells.specs as spl_cells
pub use Rattle.spl_links.specs.spl_endings
pub use Rattle.spl_links.specs as spl_links
pub use Rattle.spl_subroutines.specs.spl_procedures
pub use Rattle.spl_subroutines.specs as spl_subroutines
