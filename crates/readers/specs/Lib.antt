pub mod Readings
pub mod Accepted
