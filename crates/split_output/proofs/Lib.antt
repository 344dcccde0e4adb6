pub mod ByName
pub mod Chosen
pub mod LeftLines
