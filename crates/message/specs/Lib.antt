pub mod Headers
pub mod Table
pub mod Openings
pub mod Messages
pub mod Laws
pub mod Frames
