pub mod Page
pub mod Writing
pub mod Reading
pub mod Trip
pub mod Refusals
