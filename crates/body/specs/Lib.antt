pub mod Faults
pub mod Fields
pub mod Places
pub mod Wrongs
pub mod Steps
pub mod Tails
pub mod Bodies
