pub mod Bars
pub mod Parts
pub mod Places
pub mod Values
