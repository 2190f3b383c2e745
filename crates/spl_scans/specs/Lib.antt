-- The laws alone.
pub mod Laws
-- Passed on from the crates below.
pub use Rattle.spl_moves.specs.hp_flat
pub use Rattle.spl_moves.specs.hp_memory_rows
pub use Rattle.spl_moves.specs.hp_session
pub use Rattle.spl_moves.specs.hp_yields
pub use Rattle.spl_moves.specs.spl_follow
pub use Rattle.spl_moves.specs as spl_moves
pub use Rattle.spl_moves.specs.spl_operands
pub use Rattle.spl_moves.specs.spl_values
