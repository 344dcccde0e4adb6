pub mod FateFacts
pub mod Joined
pub mod LineFacts
pub mod OneLineFacts
pub mod SeparatorFacts
