pub mod BlockCuts
pub mod Feedings
pub mod Readings
