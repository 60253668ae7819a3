pub mod Letters
pub mod Inner
pub mod Try
pub mod Refusals
