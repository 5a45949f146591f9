pub mod Tables
pub mod Sweep
