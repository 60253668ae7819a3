pub mod Reverse
pub mod Pieces
pub mod Laws
