pub mod Drawn
pub mod Kept
pub mod Same
