pub mod Once
pub mod Slots
