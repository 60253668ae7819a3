pub mod LineLaws
pub mod Scanning
pub mod Putting
pub mod Trips
