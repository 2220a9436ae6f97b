pub mod Style
pub mod Sheet
