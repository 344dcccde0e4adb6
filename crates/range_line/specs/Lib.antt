pub mod Laws
pub mod LineEnds
pub mod Messages
pub mod Passes
pub mod Rule
