pub mod Scan
pub mod Reading
pub mod Normal
pub mod Writing
pub mod Loops
