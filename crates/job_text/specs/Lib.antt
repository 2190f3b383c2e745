-- In reading order: what lines say together, the rules, what a job is and keeps within, its laws, a text read from its front, and what the
-- code's types and answers stand for. Lines themselves, and what each says, are those of `job_lines`.
pub mod States
pub mod Rules
pub mod Jobs
pub mod Fits
pub mod Laws
pub mod Verdicts
pub mod Views
pub mod Answers
-- Passed on from the crates below.
pub use Rattle.hp_session.specs as hp_session
pub use Rattle.job_lines.specs as job_lines
pub use Rattle.mpe_session.specs as mpe_session
