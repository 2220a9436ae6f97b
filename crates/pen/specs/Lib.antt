pub mod Drawing
pub mod Inner
