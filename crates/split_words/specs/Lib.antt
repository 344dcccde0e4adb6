pub mod Bounds
pub mod Preset
