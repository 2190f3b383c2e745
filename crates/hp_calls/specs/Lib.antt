pub mod Phases
pub mod Transfers
-- Passed on from the crates below.
pub use Rattle.hp_call_rows.specs as hp_call_rows
