-- In reading order: exit statuses, verbs, what is made of programs and what they need, what an input comes to, what the top call answers and writes, what is left to the words of programs, and what its parts do.
pub mod Statuses
pub mod Verbs
pub mod Programs
pub mod Carried
pub mod Needs
pub mod Causes
pub mod Answers
pub mod Decided
pub mod Steps
-- Passed on from the crates below.
pub use Rattle.job_gen.specs.job_text
