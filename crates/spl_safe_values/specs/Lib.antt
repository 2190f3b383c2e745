-- In reading order.
pub mod Safe
pub mod Laws
-- Passed on from the crates below.
pub use Rattle.spl_covered.specs.hp_word
pub use Rattle.spl_covered.specs.spl_code
pub use Rattle.spl_covered.specs as spl_covered
pub use Rattle.spl_covered.specs.spl_meaning
pub use Rattle.spl_covered.specs.spl_names
pub use Rattle.spl_covered.specs.spl_tree
