-- In reading order.
pub mod Bits
pub mod Tables
pub mod Fields
pub mod Instructions
pub mod Encoded
pub mod Given
pub mod Groups
pub mod Labels
pub mod Names
