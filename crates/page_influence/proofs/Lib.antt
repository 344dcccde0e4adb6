pub mod Count
pub mod Layers
pub mod Least
pub mod Rest
pub mod Steps
