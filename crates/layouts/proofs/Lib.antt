pub mod Sizes
pub mod Buffers
pub mod Lines
pub mod Looks
