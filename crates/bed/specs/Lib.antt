pub mod Answers
pub mod Inner
pub mod Theorems
pub mod Try
