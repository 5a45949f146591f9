pub mod Rows
pub mod Turns
pub mod Passes
pub mod Onward
pub mod Starts
pub mod Runs
