pub mod Clock
pub mod Dates
pub mod Name
pub mod Twice
pub mod Zone
