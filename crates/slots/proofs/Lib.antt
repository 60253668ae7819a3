pub mod Words
pub mod Slots
pub mod Compact
pub mod Unused
