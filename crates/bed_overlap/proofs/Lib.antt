pub mod Standing
pub mod Blocks
pub mod Meeting
