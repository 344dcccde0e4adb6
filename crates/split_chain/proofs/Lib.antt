pub mod Animals
pub mod Ledgers
pub mod Named
pub mod OnePlace
pub mod ReadBack
pub mod Results
pub mod Tracks
