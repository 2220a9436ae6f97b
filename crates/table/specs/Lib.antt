pub mod Ground
pub mod Inner
