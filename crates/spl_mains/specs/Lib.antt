-- In reading order.
pub mod Laws
-- Passed on from the crates below.
pub use Rattle.spl_followed.specs.hp_instr
pub use Rattle.spl_followed.specs.hp_program
pub use Rattle.spl_followed.specs.spl_carries
pub use Rattle.spl_followed.specs.spl_code
pub use Rattle.spl_followed.specs.spl_follow
pub use Rattle.spl_followed.specs as spl_followed
pub use Rattle.spl_stores.specs.spl_jumps
pub use Rattle.spl_followed.specs.spl_meaning
pub use Rattle.spl_stores.specs.spl_names
