pub mod Laws
pub mod Sizes
pub mod Places
pub mod Columns
