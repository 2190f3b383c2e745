-- In reading order.
pub mod Landed
pub mod Laws
