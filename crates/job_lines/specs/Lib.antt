-- In reading order: lines and words, numbers, names, settings, the sizes of a session, commands, what a line says at its place, and
-- what the code's types stand for.
pub mod Lines
pub mod Numbers
pub mod Names
pub mod Settings
pub mod Sizes
pub mod Commands
pub mod Says
pub mod Views
