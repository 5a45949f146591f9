pub mod Laid
pub mod Taken
pub mod Accepted
pub mod Promised
pub mod Older
pub mod Ordered
