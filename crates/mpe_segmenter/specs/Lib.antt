-- In reading order.
pub mod Names
pub mod Places
pub mod Entries
pub mod Segments
pub mod Counts
pub mod Faults
pub mod Programs
pub mod Sites
pub mod Homes
pub mod Whole
pub mod PlaceViews
pub mod PartViews
pub mod Entered
pub mod SegmentViews
pub mod Walks
-- Passed on from the crates below.
pub use Rattle.hp_instr.specs as hp_instr
pub use Rattle.hp_program.specs as hp_program
pub use Rattle.spl_branch.specs as spl_branch
pub use Rattle.spl_tree.specs as spl_tree
