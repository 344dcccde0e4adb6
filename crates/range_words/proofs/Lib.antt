pub mod LevelParts
pub mod WordEntries
pub mod KnownWords
pub mod Values
