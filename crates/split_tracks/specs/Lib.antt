pub mod Laws
pub mod Tracks
