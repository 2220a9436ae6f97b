pub mod Karaoke
pub mod Answer
pub mod Progress
pub mod Inner
pub mod Left
pub mod Sheet
