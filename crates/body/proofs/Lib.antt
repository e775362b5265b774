pub mod Bits
pub mod Chains
pub mod Once
