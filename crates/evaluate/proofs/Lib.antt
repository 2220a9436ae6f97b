pub mod Opacity
pub mod Ends
pub mod Depth
