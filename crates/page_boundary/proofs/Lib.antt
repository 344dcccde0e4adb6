pub mod Adding
pub mod Digits
pub mod Following
