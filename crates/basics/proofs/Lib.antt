pub mod Bytewise
pub mod Littles
pub mod Tables
