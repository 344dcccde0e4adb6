pub mod Columns
pub mod Places
pub mod Plain
pub mod Presets
