pub mod Tags
pub mod Table
pub mod Reading
pub mod Skipping
pub mod Sizes
pub mod Answers
pub mod Evaluating
