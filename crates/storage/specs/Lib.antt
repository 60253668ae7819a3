pub mod Bytes
pub mod Records
pub mod Orders
pub mod Inner
