pub mod Analysis
pub mod Animals
pub mod Entries
pub mod FaultText
pub mod Names
pub mod Overlaps
pub mod Sources
pub mod Tracks
