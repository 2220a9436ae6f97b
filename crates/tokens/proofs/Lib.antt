pub mod Words
pub mod Following
pub mod Looking
pub mod Places
pub mod Spelling
