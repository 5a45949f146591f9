pub mod Limits
pub mod Place
