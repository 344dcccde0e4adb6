pub mod Beside
pub mod Laws
pub mod Quotes
pub mod Separator
pub mod Table
pub mod TableLeft
