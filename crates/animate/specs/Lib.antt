pub mod Claim
pub mod Inner
