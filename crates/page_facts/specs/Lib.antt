pub mod Dates
pub mod Facts
pub mod Growth
