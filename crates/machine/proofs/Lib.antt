pub mod Turning
pub mod Grounds
