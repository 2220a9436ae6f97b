pub mod Laws
pub mod Reach
pub mod Exponent
pub mod SpelledOut
