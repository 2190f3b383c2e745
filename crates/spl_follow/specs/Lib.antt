-- In reading order.
pub mod Spots
pub mod Leading
pub mod Matching
pub mod Following
pub mod Doing
pub mod Standing
pub mod Yielding
pub mod Parts
pub mod Calling
pub mod Simulating
pub mod Rooms
pub mod Programs
pub mod Laws
-- Passed on from the crates below.
pub use Rattle.hp_flat.specs.hp_call_rows
pub use Rattle.hp_flat.specs as hp_flat
pub use Rattle.hp_flat.specs.hp_instr
pub use Rattle.hp_flat.specs.hp_memory_rows
pub use Rattle.hp_flat.specs.hp_program
pub use Rattle.hp_flat.specs.hp_session
pub use Rattle.hp_flat.specs.hp_stack_rows
pub use Rattle.hp_flat.specs.hp_word
pub use Rattle.hp_flat.specs.hp_word_rows
pub use Rattle.spl_code.specs.spl_branch
pub use Rattle.spl_code.specs as spl_code
pub use Rattle.spl_frames.specs as spl_frames
pub use Rattle.spl_code.specs.spl_meaning
pub use Rattle.spl_code.specs.spl_tree
