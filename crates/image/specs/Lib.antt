pub mod Sizes
pub mod Header
pub mod Image
pub mod Inner
pub mod Panel
