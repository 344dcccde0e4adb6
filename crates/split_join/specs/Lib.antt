pub mod Joined
pub mod Place
