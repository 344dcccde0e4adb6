pub mod Marks
pub mod Places
pub mod PlainLines
pub mod QuoteFacts
pub mod QuotePlaces
pub mod RecordFacts
