pub mod Table
pub mod Tags
pub mod Formed
pub mod Decoding
pub mod Deeper
pub mod ByKind
