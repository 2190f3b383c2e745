-- In reading order.
pub mod Rest
pub mod Laws
