pub mod Fates
pub mod Laws
pub mod Marked
pub mod Projected
pub mod Shift
