pub mod Points
pub mod Rings
