-- In reading order.
pub mod Followed
pub mod Laws
pub mod Mains
-- Passed on from the crates below.
pub use Rattle.spl_carries.specs.hp_instr
pub use Rattle.spl_carries.specs.hp_program
pub use Rattle.spl_carries.specs.hp_session
pub use Rattle.spl_carries.specs as spl_carries
pub use Rattle.spl_follow.specs.spl_code
pub use Rattle.spl_follow.specs as spl_follow
pub use Rattle.spl_carries.specs.spl_meaning
pub use Rattle.spl_carries.specs.spl_tree
