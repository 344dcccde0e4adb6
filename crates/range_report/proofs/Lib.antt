pub mod LastDigit
pub mod ListFacts
pub mod NumberedLines
pub mod PartCuts
pub mod Texts
