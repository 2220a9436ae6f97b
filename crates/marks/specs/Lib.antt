pub mod Marks
pub mod Answer
pub mod Inner
pub mod Sheet
