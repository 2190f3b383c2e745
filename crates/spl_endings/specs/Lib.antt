-- In reading order.
pub mod Gates
pub mod Laws
-- Passed on from the crates below.
pub use Rattle.hp_call_yields.specs.hp_call_rows
pub use Rattle.hp_call_yields.specs.hp_flat
pub use Rattle.hp_call_yields.specs.hp_session
pub use Rattle.hp_call_yields.specs.hp_stack_rows
pub use Rattle.hp_call_yields.specs.hp_word_rows
pub use Rattle.hp_call_yields.specs.spl_follow
pub use Rattle.hp_call_yields.specs.spl_frames
