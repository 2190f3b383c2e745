pub mod Arounds
pub mod Sums
