-- In reading order: draws; lines with places for draws; the lines of a generated job; the job that it is; what the code
-- appends.
pub mod Draws
pub mod Pieces
pub mod Generated
pub mod Jobs
pub mod Grows
-- Passed on from the crates below.
pub use Rattle.job_text.specs.hp_session
pub use Rattle.job_text.specs as job_text
pub use Rattle.job_text.specs.mpe_session
