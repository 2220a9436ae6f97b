pub mod Answer
pub mod Finite
pub mod Sheet
