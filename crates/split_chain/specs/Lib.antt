pub mod Chain
pub mod Laws
pub mod Placed
pub mod Refused
