pub mod Tags
pub mod Words
