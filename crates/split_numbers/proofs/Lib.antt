pub mod Conditions
pub mod Halves
pub mod Moves
pub mod Rounding
pub mod Twelve
pub mod Units
pub mod Values
