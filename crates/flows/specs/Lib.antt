pub mod Marks
pub mod Flow
