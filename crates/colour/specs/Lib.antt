pub mod Colour
pub mod Inner
pub mod Sheet
