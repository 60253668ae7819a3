pub mod Properties
pub mod Refusals
pub mod Segments
pub mod Words
pub mod Legal
pub mod Check
pub mod Try
