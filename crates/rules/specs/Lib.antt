pub mod Opened
pub mod Replies
pub mod Spelling
