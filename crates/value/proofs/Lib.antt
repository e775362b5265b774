pub mod Uniqueness
pub mod Headers
pub mod Moments
pub mod Refusals
pub mod Worked
pub mod Printed
