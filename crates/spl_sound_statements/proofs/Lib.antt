pub mod Targets
pub mod Effects
pub mod Parts
pub mod Statements
