pub mod FieldFacts
pub mod FileFacts
pub mod TableFacts
