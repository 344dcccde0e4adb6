pub mod Counting
pub mod ReadingFacts
pub mod Tracks
pub mod Unescaping
