pub mod Unpacked
pub mod Instant
pub mod InForce
pub mod Spans
