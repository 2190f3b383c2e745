-- In reading order.
pub mod Operators
pub mod Laws
