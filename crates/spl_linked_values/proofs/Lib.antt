pub mod PartLaws
pub mod Expressions
