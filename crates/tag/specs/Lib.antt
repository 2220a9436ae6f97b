pub mod Tag
pub mod Table
pub mod Range
pub mod WellFormed
pub mod Depth
pub mod Decode
pub mod Sheet
