pub mod Fates
pub mod Laws
pub mod Lines
pub mod OneLine
