pub mod Bits
pub mod Bytes
pub mod Little
pub mod Telling
