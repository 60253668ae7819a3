pub mod Segments
pub mod Laws
