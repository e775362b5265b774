pub mod Taking
pub mod Hex
