pub mod Animals
pub mod Many
pub mod Parts
pub mod Ranges
pub mod Refusals
pub mod Reports
