pub mod CheckFacts
pub mod GivenFacts
pub mod LawFacts
pub mod ProgressFacts
pub mod ReadingFacts
pub mod RecordFacts
