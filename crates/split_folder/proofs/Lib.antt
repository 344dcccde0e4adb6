pub mod GoodNames
pub mod Calls
