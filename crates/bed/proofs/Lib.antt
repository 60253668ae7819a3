pub mod Writing
pub mod Short
pub mod Calls
pub mod Reading
pub mod Accepted
pub mod Trips
pub mod Answers
