pub mod Kinds
pub mod Fronts
