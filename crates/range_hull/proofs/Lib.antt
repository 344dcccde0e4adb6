pub mod Area
pub mod Bends
pub mod Beyond
pub mod Chains
pub mod Hulls
pub mod Spots
