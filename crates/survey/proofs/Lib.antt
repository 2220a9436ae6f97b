pub mod Laws
pub mod Long
pub mod Fields
