pub mod Gathering
pub mod Acting
pub mod Sweeping
pub mod Promise
