pub mod Raw
pub mod Header
pub mod Packet
pub mod Numbers
pub mod Faults
pub mod Measured
pub mod Fields
