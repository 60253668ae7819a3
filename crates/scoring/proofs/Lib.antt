pub mod Rule
pub mod Firsts
pub mod Width
pub mod Longer
pub mod Room
pub mod Alike
pub mod Tied
