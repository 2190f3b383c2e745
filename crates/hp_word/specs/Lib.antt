pub mod Words
pub mod Bits
pub mod Bytes
pub mod Texts
pub mod Intrinsics
