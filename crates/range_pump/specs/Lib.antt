pub mod Blocks
pub mod Pump
