pub mod Laws
pub mod Tags
