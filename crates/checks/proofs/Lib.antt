pub mod Shifting
pub mod Entries
