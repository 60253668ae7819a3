pub mod NextDouble
pub mod Try
