-- In reading order.
pub mod Programs
