pub mod Block
pub mod Reading
pub mod Inner
pub mod Holds
pub mod Sheet
pub mod Moved
