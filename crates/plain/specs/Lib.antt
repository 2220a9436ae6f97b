pub mod Names
pub mod Plain
pub mod Inner
pub mod Sheet
