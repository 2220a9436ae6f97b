pub mod Decimal
pub mod Sheet
