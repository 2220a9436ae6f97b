pub mod Clipping
pub mod Places
