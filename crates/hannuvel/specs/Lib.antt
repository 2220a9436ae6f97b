pub mod Packed
pub mod Instant
pub mod InForce
pub mod Karaoke
pub mod Inner
