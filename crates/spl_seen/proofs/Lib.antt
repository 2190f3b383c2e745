pub mod Fixed
pub mod Plain
pub mod Grounded
pub mod Allowed
pub mod Limits
