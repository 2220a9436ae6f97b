pub mod FloatWords
pub mod ByKind
pub mod Slices
pub mod Faults
pub mod Grounds
