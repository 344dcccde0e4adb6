pub mod Drawing
pub mod Ranked
pub mod Rows
pub mod Same
pub mod Tracks
