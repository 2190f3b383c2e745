pub mod MemoryKeeping
pub mod MoveKeeping
