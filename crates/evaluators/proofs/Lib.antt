pub mod Turns
pub mod Checking
