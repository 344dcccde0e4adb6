pub mod Gathered
pub mod Indices
pub mod Integers
pub mod Members
pub mod Numbered
pub mod Ring
pub mod Sizes
pub mod Zipped
