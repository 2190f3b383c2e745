pub mod StackRows
