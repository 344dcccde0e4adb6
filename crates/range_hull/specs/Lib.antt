pub mod Area
pub mod Chain
pub mod Hull
pub mod Outside
pub mod Spot
pub mod Tally
