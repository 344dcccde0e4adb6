pub mod JoinedFacts
pub mod PlaceFacts
