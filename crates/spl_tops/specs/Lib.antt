-- In reading order.
pub mod Seen
pub mod Laws
-- Passed on from the crates below.
pub use Rattle.spl_doubles.specs.spl_operands
pub use Rattle.spl_doubles.specs.spl_operators
pub use Rattle.spl_doubles.specs.hp_flat
pub use Rattle.spl_doubles.specs.hp_instr
pub use Rattle.spl_doubles.specs.hp_session
pub use Rattle.spl_doubles.specs.hp_yields
pub use Rattle.spl_doubles.specs.spl_branch
pub use Rattle.spl_doubles.specs.spl_code
pub use Rattle.spl_doubles.specs.spl_follow
pub use Rattle.spl_doubles.specs.spl_meaning
pub use Rattle.spl_doubles.specs as spl_doubles
pub use Rattle.spl_doubles.specs.spl_tree
pub use Rattle.spl_doubles.specs.spl_values
