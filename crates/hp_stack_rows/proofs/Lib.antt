pub mod StackKeeping
