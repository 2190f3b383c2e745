pub mod Frames
pub mod Words
pub mod Sizes
pub mod Waiting
pub mod Entries
pub mod Laws
