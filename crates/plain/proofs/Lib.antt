pub mod Marks
pub mod Height
pub mod Tasks
pub mod Deepest
pub mod Whole
