pub mod Every
pub mod Filters
pub mod Laws
pub mod Leave
pub mod Speed
pub mod Values
