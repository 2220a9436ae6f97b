pub mod State
pub mod Mix
pub mod Apply
pub mod Sheet
