pub mod Laws
pub mod Sweeps
pub mod Bits
pub mod Tables
pub mod Any
