pub mod Labels
pub mod Heads
pub mod Targets
