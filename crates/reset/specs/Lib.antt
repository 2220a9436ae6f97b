pub mod Reset
