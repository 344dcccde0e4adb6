pub mod Groups
pub mod Number
