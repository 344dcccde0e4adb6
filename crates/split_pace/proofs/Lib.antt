pub mod After
pub mod Decimals
pub mod Kept
pub mod Leaving
pub mod Pieces
pub mod Reach
