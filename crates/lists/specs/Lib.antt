pub mod Lists
pub mod Inner
pub mod Sheet
