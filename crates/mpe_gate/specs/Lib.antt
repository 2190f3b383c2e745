-- In reading order: the session at its terminal, what comes of a call, and the words that it exchanges.
pub mod Seated
pub mod Serves
pub mod Words
-- Passed on from the crates below.
pub use Rattle.hp_call_rows.specs as hp_call_rows
pub use Rattle.hp_rows.specs as hp_rows
pub use Rattle.hp_session.specs as hp_session
pub use Rattle.hp_tos.specs as hp_tos
