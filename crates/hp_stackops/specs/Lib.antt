pub mod StackUses
