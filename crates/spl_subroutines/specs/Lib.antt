-- In reading order.
pub mod Subroutines
pub mod Laws
-- Passed on from the crates below.
pub use Rattle.spl_procedures.specs.hp_instr
pub use Rattle.spl_procedures.specs.hp_session
pub use Rattle.hp_near_calls.specs.hp_steady
pub use Rattle.spl_procedures.specs.spl_follow
pub use Rattle.spl_procedures.specs.spl_meaning
pub use Rattle.spl_procedures.specs as spl_procedures
pub use Rattle.spl_procedures.specs.spl_tree
