pub mod Flags
pub mod Descriptions
