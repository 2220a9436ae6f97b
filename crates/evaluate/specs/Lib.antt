pub mod Inner
pub mod Evaluate
pub mod Sheet
