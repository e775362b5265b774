pub mod Characters
pub mod Texts
