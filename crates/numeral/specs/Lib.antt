pub mod Numeral
pub mod Spelled
pub mod Inner
pub mod Sheet
