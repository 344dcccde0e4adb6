pub mod Keys
pub mod Overlap
pub mod Percent
