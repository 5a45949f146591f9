pub mod Skip
pub mod Answer
