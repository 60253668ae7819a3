pub mod Steps
pub mod Spare
pub mod Mapped
pub mod Assignments
pub mod Rooms
pub mod Lent
