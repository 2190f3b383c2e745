-- In reading order.
pub mod Settable
pub mod Laws
