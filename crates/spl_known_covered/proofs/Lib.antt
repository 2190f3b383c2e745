-- In reading order.
pub mod Known
