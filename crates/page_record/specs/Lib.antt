pub mod Counts
pub mod Fields
pub mod Kinds
pub mod Reading
pub mod System
pub mod Unescaped
pub mod Zones
