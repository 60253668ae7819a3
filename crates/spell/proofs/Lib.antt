pub mod Crops
pub mod Laws
pub mod Answers
pub mod Cuts
pub mod Normal
pub mod Switches
pub mod Calls
