pub mod PartLaws
pub mod Expressions
pub mod Statements
pub mod Bodies
pub mod Modules
