pub mod Spans
pub mod Trees
pub mod Readings
pub mod Steps
pub mod Flow
