pub mod Wants
pub mod Names
pub mod Frames
pub mod Programs
