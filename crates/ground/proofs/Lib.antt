pub mod ListLaws
pub mod Members
pub mod Ranges
