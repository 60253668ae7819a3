pub mod Steps
pub mod Statement
pub mod Try
