pub mod Answering
pub mod Within
pub mod Finite
pub mod Weighing
pub mod Places
