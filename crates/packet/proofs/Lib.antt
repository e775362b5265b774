pub mod Bits
pub mod Decoding
pub mod Laid
pub mod Unique
pub mod Judging
