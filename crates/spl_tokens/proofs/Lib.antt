pub mod CursorLemmas
pub mod Chains
pub mod Steps
pub mod Turns
