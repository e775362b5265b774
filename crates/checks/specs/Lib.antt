pub mod Check
pub mod Crc16
pub mod Xor
pub mod Crcs
pub mod Xors
