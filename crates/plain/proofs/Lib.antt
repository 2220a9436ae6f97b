pub mod Numbers
pub mod Commas
pub mod Gives
pub mod Every
pub mod Bridge
pub mod Keys
