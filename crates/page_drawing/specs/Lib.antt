pub mod Bounds
pub mod Colours
pub mod Laws
pub mod Places
pub mod Steps
