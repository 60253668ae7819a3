pub mod Spelling
pub mod Inner
pub mod Theorems
pub mod Try
pub mod Refusals
