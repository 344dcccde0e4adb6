pub mod Estimation
pub mod Table
