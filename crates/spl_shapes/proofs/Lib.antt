pub mod Operators
pub mod Expressions
pub mod Statements
pub mod Units
pub mod Texts
