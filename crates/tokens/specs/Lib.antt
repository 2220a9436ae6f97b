pub mod Tokens
pub mod Inner
pub mod Sheet
