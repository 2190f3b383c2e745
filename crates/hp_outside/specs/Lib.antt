-- In reading order.
pub mod Faults
pub mod Whole
pub mod Calls
pub mod Room
pub mod Memory
pub mod Written
