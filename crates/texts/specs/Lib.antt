pub mod Bed
pub mod Inner
pub mod Try
