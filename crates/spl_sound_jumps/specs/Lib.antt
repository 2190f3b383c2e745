pub mod Laws
-- Passed on from the crates below.
pub use Rattle.spl_label_marks.specs.spl_places
