pub mod Beats
pub mod Counting
pub mod Depth
pub mod Flat
pub mod Filling
pub mod Passing
pub mod Spans
pub mod Unit
