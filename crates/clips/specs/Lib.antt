pub mod Part
pub mod Clip
pub mod Inner
pub mod Sheet
