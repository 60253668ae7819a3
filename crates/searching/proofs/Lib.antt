pub mod Rest
pub mod Entering
pub mod Running
pub mod Sowing
pub mod Answer
