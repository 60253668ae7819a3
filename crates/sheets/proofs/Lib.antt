pub mod Spans
pub mod Rooms
pub mod Laws
pub mod Short
