pub mod Numbers
pub mod Standing
pub mod Performs
pub mod Flushes
pub mod Moves
