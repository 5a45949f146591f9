pub mod Tests
pub mod DirectRun
pub mod Replies
