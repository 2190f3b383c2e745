pub mod Seen
pub mod Calls
pub mod Steps
pub mod References
pub mod Lists
pub mod Representation
pub mod StackView
